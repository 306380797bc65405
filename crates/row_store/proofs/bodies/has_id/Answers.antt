use Rattle.row_store.proofs.NewIds.{has_row, has_placed}
use Rattle.row_store.proofs.bodies.has_id.Goals as goal

pub returns-then-row_has_id : goal.returns-then-row_has_id
returns-then-row_has_id c = has_row c.args.tables.now.shared.bodyparts c.args.placed.now c.args.id c.row_has_id.result c.row_has_id.ensures c.if-row_has_id.true

pub returns-else-row_has_id : goal.returns-else-row_has_id
returns-else-row_has_id c = has_placed c.args.tables.now.shared.bodyparts c.args.placed.now c.args.id c.row_has_id.result c.placed_has_id.result c.row_has_id.ensures c.if-row_has_id.false c.placed_has_id.ensures
