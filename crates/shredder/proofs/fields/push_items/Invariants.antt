use Rattle.std.proofs.Common.{◌≡◌, ◌++◌, map, drop}
use Rattle.row_tables.specs.declared.change.RowChange.TheVariants.{InsertAddressField}
use Rattle.shredder.specs.Making.{item_rows}
use Rattle.shredder.proofs.fields.push_items.Given as goal

-- the changes so far and those to come are all
abbrev pub invariant-loop-item : goal.invariant-loop-item
invariant-loop-item l =
    l.changes.items ++ map InsertAddressField (item_rows l.at.message l.at.path.now l.at.place l.item (drop l.item l.items) (drop l.item l.addresses)) ≡ l.fn.changes.items ++ map InsertAddressField (item_rows l.at.message l.at.path.now l.at.place 0 l.items l.addresses)
