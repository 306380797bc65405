use Rattle.std.proofs.Common.{◌≡◌, ◌==◌, ◌||◌, ℕ, length}
use Rattle.std.specs.List.{list_any}
use Rattle.row_tables.specs.References.{flags_of}
use Rattle.mailbox_core.proofs.keywords.flag_ids.Given as goal

abbrev pub invariant-rows : goal.invariant-rows
invariant-rows l = (id : ℕ) → (list_any (λ i. i == id) l.ids.keys || list_any (λ row. row.flag == id) l.rows) ≡ list_any (λ row. row.flag == id) (flags_of l.mailbox l.tables.marks.flags)

abbrev pub decreases-rows : goal.decreases-rows
decreases-rows l = length l.rows
