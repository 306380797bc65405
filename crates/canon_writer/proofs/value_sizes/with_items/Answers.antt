use Rattle.std.proofs.Common.{◌+◌, drop, sym, ◌∙◌, ap, arith}
use Rattle.std.proofs.lemmas.List.{drop_all}
use Rattle.canon_writer.specs.Counting.{with_bytes, between_behind, items_behind}
use Rattle.canon_writer.proofs.CountLemmas.{with_bytes-none}
use Rattle.canon_writer.proofs.PieceLemmas.{next_item, all_items}
use Rattle.canon_writer.proofs.value_sizes.with_items.Goals as goal

pub loop-item-init : goal.loop-item-init
loop-item-init c =
    ap (λ b. with_bytes c.args.field (items_behind b c.args.items.now)) c.as_slice-between.ensures
    ∙ ap (with_bytes c.args.field) (all_items c.args.items.now)

pub loop-item-preserved : goal.loop-item-preserved
loop-item-preserved c =
    let items = c.args.items.now in
    let at = c.loop-item.item-index in
    let item = c.item-item.result in
    ap (λ b. with_bytes c.with_item-counted.result (items_behind b (drop (at + 1) items))) c.between_behind-between.ensures
    ∙ ap (λ f. with_bytes f (items_behind (between_behind item) (drop (at + 1) items))) c.with_item-counted.ensures
    ∙ next_item c.loop-item.counted c.loop-item.between.now items at item c.loop-item-test.true c.item-item.is ∙ c.loop-item.invariant

pub returns : goal.returns
returns c =
    sym (with_bytes-none c.loop-item.counted)
    ∙ ap (λ items. with_bytes c.loop-item.counted (items_behind c.loop-item.between.now items)) (sym (drop_all c.loop-item.item-index c.args.items.now (omega (arith, c.loop-item-test.false)))) ∙ c.loop-item.invariant
