use Rattle.ordered_rows.specs.RowKey.{row_key}
use Rattle.ordered_rows.proofs.Edits.{rest_from_spot}
use Rattle.ordered_rows.proofs.blocks.rest_in.Goals as goal

pub returns-in-Some : goal.returns-in-Some
returns-in-Some g c =
    rest_from_spot g.R.Keyed.key_of (row_key c.args.key) c.args.blocks.now c.requires c.in-Some.n c.in-Some.i c.in-Some.ensures c.index-blocks-n.result c.index-blocks-n.is c.deref-block.result.now c.deref-block.ensures.value
