use Rattle.std.proofs.Common.{sym}
use Rattle.ordered_rows.specs.RowKey.{row_key}
use Rattle.ordered_rows.proofs.Edits.{spot_read, row_found}
use Rattle.ordered_rows.proofs.blocks.row_in.Goals as goal

pub returns-in-Some : goal.returns-in-Some
returns-in-Some g c =
    let read = spot_read c.in-Some.ensures.spot c.index-blocks-n.result c.index-blocks-n.is c.deref-block.result.now c.deref-block.ensures.value c.index-block-i.result c.index-block-i.is in
    sym (row_found g.R.Keyed.key_of (row_key c.args.key) c.args.blocks.now c.in-Some.n c.in-Some.i c.requires c.in-Some.ensures c.deref-block.result.now c.index-block-i.result read)
