use Rattle.std.proofs.Common.{◌+◌, [], ◌∷◌, drop, sym, ◌∙◌, ap, arith}
use Rattle.std.proofs.lemmas.List.{drop_all}
use Rattle.canon_writer.specs.Counting.{with_bytes, ids_behind}
use Rattle.canon_writer.proofs.CountLemmas.{with_bytes-none}
use Rattle.canon_writer.proofs.PieceLemmas.{next_id, all_ids}
use Rattle.canon_writer.proofs.value_sizes.with_ids.Goals as goal

pub loop-id-init : goal.loop-id-init
loop-id-init c =
    ap (λ b. with_bytes c.args.field (ids_behind b c.args.ids.now)) c.as_slice-between.ensures
    ∙ ap (with_bytes c.args.field) (all_ids c.args.ids.now)

pub loop-id-preserved : goal.loop-id-preserved
loop-id-preserved c =
    let ids = c.args.ids.now in
    let at = c.loop-id.id-index in
    let left = ids_behind (32 ∷ []) (drop (at + 1) ids) in
    ap (λ f. with_bytes f left) c.with_bytes-counted.ensures
    ∙ ap (λ id. with_bytes (with_bytes c.with_bytes.result id) left) c.as_slice.ensures
    ∙ ap (λ f. with_bytes (with_bytes f c.id-item.result) left) c.with_bytes.ensures
    ∙ next_id c.loop-id.counted c.loop-id.between.now ids at c.id-item.result c.loop-id-test.true c.id-item.is ∙ c.loop-id.invariant

pub returns : goal.returns
returns c =
    sym (with_bytes-none c.loop-id.counted)
    ∙ ap (λ ids. with_bytes c.loop-id.counted (ids_behind c.loop-id.between.now ids)) (sym (drop_all c.loop-id.id-index c.args.ids.now (omega (arith, c.loop-id-test.false)))) ∙ c.loop-id.invariant
