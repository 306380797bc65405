use Rattle.std.proofs.Common.{List, length}
use Rattle.mime_tree.specs.declared.values.Item.{Item}
use Rattle.row_tables.specs.References.{addresses_at}
use Rattle.shredder.specs.MessageRows.{AreItemRows}
use Rattle.rebuilder.proofs.Walks.{IsHalfway}
use Rattle.rebuilder.proofs.values.items_in.Given as goal

abbrev pub invariant-rows : goal.invariant-rows
invariant-rows l = (items : List Item) → AreItemRows l.tables.shared.addresses 0 items (addresses_at l.message l.path l.place l.tables.mails.address_fields) → IsHalfway (AreItemRows l.tables.shared.addresses) items l.items.items l.rows

abbrev pub decreases-rows : goal.decreases-rows
decreases-rows l = length l.rows
