use Rattle.std.proofs.Common.{cond, Some, None, sym, ap, ◌∙◌}
use Rattle.ordered_rows.specs.RowKey.{row_key, same_key}
use Rattle.ordered_rows.specs.Listed.{has_key}
use Rattle.ordered_rows.proofs.Edits.{spot_read, row_at_spot, row_at_end}
use Rattle.ordered_rows.proofs.blocks.place.Goals as goal

pub returns-then-is_same : goal.returns-then-is_same
returns-then-is_same g c =
    let k = row_key c.args.key in
    let key = g.R.Keyed.key_of in
    let read = spot_read c.in-Some.ensures c.index-blocks-n.result c.index-blocks-n.is c.deref-block.result.now c.deref-block.ensures.value c.index-block-i.result c.index-block-i.is in
    record { spot = c.in-Some.ensures; has = ap (has_key key k) (sym read.row_is) ∙ ap (λ a. same_key a k) (sym c.key.ensures) ∙ sym c.if-is_same.ensures }

pub returns-else-is_same : goal.returns-else-is_same
returns-else-is_same g c =
    let k = row_key c.args.key in
    let row = c.index-block-i.result in
    let read = spot_read c.in-Some.ensures c.index-blocks-n.result c.index-blocks-n.is c.deref-block.result.now c.deref-block.ensures.value row c.index-block-i.is in
    row_at_spot g.R.Keyed.key_of k c.args.blocks.now c.requires c.in-Some.n c.in-Some.i c.in-Some.ensures c.deref-block.result.now row read ∙ ap (λ b. cond b (Some row) None) (sym (c.if-is_same.ensures ∙ ap (λ a. same_key a k) c.key.ensures))

pub returns-in-None : goal.returns-in-None
returns-in-None g c = row_at_end g.R.Keyed.key_of (row_key c.args.key) c.args.blocks.now c.requires c.in-None.ensures
