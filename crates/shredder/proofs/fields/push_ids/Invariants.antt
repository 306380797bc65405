use Rattle.std.proofs.Common.{◌≡◌, ◌++◌, map, drop}
use Rattle.row_tables.specs.declared.change.RowChange.TheVariants.{InsertMessageId}
use Rattle.shredder.specs.MessageRows.{id_rows}
use Rattle.shredder.proofs.fields.push_ids.Given as goal

-- the changes so far and those to come are all
abbrev pub invariant-loop-item : goal.invariant-loop-item
invariant-loop-item l =
    l.changes.items ++ map InsertMessageId (id_rows l.at.message l.at.path.now l.at.place l.item (drop l.item l.ids)) ≡ l.fn.changes.items ++ map InsertMessageId (id_rows l.at.message l.at.path.now l.at.place 0 l.ids)
