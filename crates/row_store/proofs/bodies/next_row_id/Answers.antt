use Rattle.row_store.proofs.NewIds.{new_number_is}
use Rattle.row_store.proofs.bodies.next_row_id.Goals as goal

pub returns : goal.returns
returns c = new_number_is c.keys.ensures.numbers c.args.tables.now.shared.bodyparts c.new_body_part_id.result c.are_whole.ensures.ordered.bodyparts c.requires c.new_body_part_id.ensures
