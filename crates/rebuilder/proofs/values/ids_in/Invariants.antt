use Rattle.std.proofs.Common.{◌≡◌, ℕ, List, length}
use Rattle.row_tables.specs.References.{ids_at}
use Rattle.shredder.specs.MessageRows.{id_rows}
use Rattle.rebuilder.proofs.Walks.{IsHalfway, AreIdRows}
use Rattle.rebuilder.proofs.values.ids_in.Given as goal

abbrev pub invariant-rows : goal.invariant-rows
invariant-rows l = (ids : List (List ℕ)) → ids_at l.message l.path l.place l.tables.mails.message_ids ≡ id_rows l.message l.path l.place 0 ids → IsHalfway (AreIdRows l.message l.path l.place) ids l.ids.items l.rows

abbrev pub decreases-rows : goal.decreases-rows
decreases-rows l = length l.rows
