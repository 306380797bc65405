use Rattle.std.proofs.Common.{◌≡◌, ℕ, true, ◌==◌, length}
use Rattle.std.specs.List.{list_any}
use Rattle.row_store.specs.Refusals.{RowHas}
use Rattle.row_store.proofs.bodies.find_row.Given as goal

-- a row with the bytes is one of those that are left
abbrev pub invariant-search : goal.invariant-search
invariant-search l = (id : ℕ) → RowHas l.tables.shared.bodyparts id l.bytes → list_any (λ n. n == id) l.ids ≡ true

abbrev pub decreases-search : goal.decreases-search
decreases-search l = length l.ids
