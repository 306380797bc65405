use Rattle.std.proofs.Common.{rules, sym, subst, arith, ◌<◌, length}
use Rattle.std.proofs.lemmas.List.Sorted.{IsPartitionPoint-from_clause}
use Rattle.ordered_rows.specs.RowKey.{row_key}
use Rattle.ordered_rows.specs.Listed.{is_below}
use Rattle.ordered_rows.specs.Blocks.{last_passes}
use Rattle.ordered_rows.proofs.Cuts.{partitioned, Falls}
use Rattle.ordered_rows.proofs.Spots.{blocks_falls, items_fall, end_none, end_some}
use Rattle.ordered_rows.proofs.blocks.spot.Goals as goal

pub returns-then-n-blocks : goal.returns-then-n-blocks
returns-then-n-blocks g c =
    let k = row_key c.args.key in
    let p = is_below g.R.Keyed.key_of k in
    let at = IsPartitionPoint-from_clause (last_passes p) c.args.blocks.now c.partition_point-n.result c.partition_point-n.ensures.partitioned (partitioned (last_passes p) c.args.blocks.now (blocks_falls g.R.Keyed.key_of k c.args.blocks.now c.requires)) (λ a r f called. search rules) in
    end_none g.R.Keyed.key_of k c.args.blocks.now c.requires c.partition_point-n.result at (search rules)

pub returns : goal.returns
returns g c =
    let k = row_key c.args.key in
    let key = g.R.Keyed.key_of in
    let p = is_below key k in
    let blocks = c.args.blocks.now in
    let block = c.index-blocks-n.result in
    let items = c.deref-block.result.now in
    let within : c.partition_point-n.result < length blocks = omega (arith, c.partition_point-n.ensures.bound, c.if-n-blocks.false) in
    let at_block = IsPartitionPoint-from_clause (last_passes p) blocks c.partition_point-n.result c.partition_point-n.ensures.partitioned (partitioned (last_passes p) blocks (blocks_falls key k blocks c.requires)) (λ a r f called. search rules) in
    let falls = items_fall key k blocks c.requires c.partition_point-n.result block within c.index-blocks-n.is in
    let at_row = IsPartitionPoint-from_clause p items c.partition_point-i.result c.partition_point-i.ensures.partitioned (partitioned p items (subst (Falls p) (sym c.deref-block.ensures.value) falls)) (λ a r f called. search rules) in
    end_some key k blocks c.requires c.partition_point-n.result c.partition_point-i.result block within c.index-blocks-n.is items c.deref-block.ensures.value c.partition_point-i.ensures.bound at_block at_row
