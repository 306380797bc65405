use Rattle.std.proofs.Common.{List, length}
use Rattle.mime_tree.specs.declared.values.Field.{Field}
use Rattle.shredder.specs.MessageRows.{AreFieldRows, HasFields}
use Rattle.rebuilder.proofs.Walks.{IsHalfway}
use Rattle.rebuilder.proofs.fields.fields_in.Given as goal

abbrev pub invariant-rows : goal.invariant-rows
invariant-rows l = (fields : List Field) → HasFields l.tables l.message l.path fields → IsHalfway (AreFieldRows l.tables l.message l.path) fields l.fields.items l.rows

abbrev pub decreases-rows : goal.decreases-rows
decreases-rows l = length l.rows
