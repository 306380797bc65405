use Rattle.std.proofs.Common.{None, sym, ap, subst, ◌∙◌}
use borrow.Author.Tests.{eq-eqb}
use Rattle.ordered_rows.specs.RowKey.{RowKey}
use Rattle.ordered_rows.specs.Blocks.{IsSpot, IsEnd}
use Rattle.ordered_rows.specs.Listed.{is_below}
use Rattle.ordered_rows.proofs.Edits.{spot_read}
use Rattle.ordered_rows.proofs.Firsts.{own_key, none_left, other_first, other_number}
use Rattle.ordered_rows.proofs.blocks.first_place.Goals as goal

pub returns-then-key-number : goal.returns-then-key-number
returns-then-key-number g c =
    let key = g.R.Keyed.key_of in
    let n = c.args.number in
    let s = subst (λ (k : RowKey). IsSpot (is_below key k) c.args.blocks.now c.in-Some.n c.in-Some.i) c.of_number.ensures c.in-Some.ensures in
    let read = spot_read s c.index-blocks-n.result c.index-blocks-n.is c.deref-block.result.now c.deref-block.ensures.value c.index-block-i.result c.index-block-i.is in
    let number = ap (λ r. (key r).number) (sym read.row_is) ∙ ap (λ (k : RowKey). k.number) (sym c.key.ensures) ∙ c.if-key-number.true in
    record { row = s.row; numbered = eq-eqb (key s.row).number n number; found = own_key key n c.args.blocks.now c.in-Some.n c.in-Some.i c.requires s }

pub returns-else-key-number : goal.returns-else-key-number
returns-else-key-number g c =
    let key = g.R.Keyed.key_of in
    let n = c.args.number in
    let s = subst (λ (k : RowKey). IsSpot (is_below key k) c.args.blocks.now c.in-Some.n c.in-Some.i) c.of_number.ensures c.in-Some.ensures in
    let read = spot_read s c.index-blocks-n.result c.index-blocks-n.is c.deref-block.result.now c.deref-block.ensures.value c.index-block-i.result c.index-block-i.is in
    let number = ap (λ (k : RowKey). k.number) c.key.ensures ∙ ap (λ r. (key r).number) read.row_is in
    other_first key n _ s.row _ c.requires.order (sym s.back) (other_number (key s.row).number n (λ e. c.if-key-number.false (number ∙ e)))

pub returns-in-None : goal.returns-in-None
returns-in-None g c =
    let key = g.R.Keyed.key_of in
    none_left key c.args.number _ c.requires.order (sym (subst (λ (k : RowKey). IsEnd (is_below key k) c.args.blocks.now None) c.of_number.ensures c.in-None.ensures).1)
