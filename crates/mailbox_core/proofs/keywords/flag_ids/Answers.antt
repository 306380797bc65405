use Rattle.std.proofs.Common.{◌≡◌, ◌==◌, ◌||◌, ℕ, List, ap, subst, ◌∙◌}
use Rattle.std.specs.List.{list_any}
use Rattle.row_tables.specs.References.{flags_of}
use Rattle.row_tables.specs.declared.marks.FlagRow.{FlagRow}
use Rattle.mailbox_core.proofs.Words.{id_inserted, moved}
use Rattle.mailbox_core.proofs.keywords.flag_ids.Goals as goal

pub rows-preserved : goal.rows-preserved
rows-preserved c = λ id.
    let all = flags_of c.args.mailbox c.args.tables.now.marks.flags in
    moved (list_any (λ (i : ℕ). i == id) c.rows.ids.keys) (c.in-Some.row.now.flag == id) (list_any (λ (row : FlagRow). row.flag == id) c.next.new.self)
    (list_any (λ (i : ℕ). i == id) c.insert.new.self.keys) (list_any (λ (row : FlagRow). row.flag == id) all)
    (ap (λ (l : List ℕ). list_any (λ (i : ℕ). i == id) l) c.in_ok-insert.ensures.keys ∙ id_inserted c.rows.ids.keys c.in-Some.row.now.flag id)
    (subst (λ (rows : List FlagRow). (list_any (λ (i : ℕ). i == id) c.rows.ids.keys || list_any (λ (row : FlagRow). row.flag == id) rows) ≡ list_any (λ (row : FlagRow). row.flag == id) all) c.in-Some.ensures.steps (c.rows.invariant id))
