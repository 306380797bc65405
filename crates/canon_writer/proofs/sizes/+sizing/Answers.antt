use Rattle.std.proofs.Common.{◌≡◌, ◌+◌, length, drop, sym, ◌∙◌, ap, arith}
use Rattle.std.proofs.lemmas.List.{drop_all}
use Rattle.mime_tree.specs.Contents.{trees_of}
use Rattle.canon_writer.specs.Counting.{capped}
use Rattle.canon_writer.specs.Printing.{print_parts}
use Rattle.canon_writer.proofs.PartLemmas.{part_smaller}
use Rattle.canon_writer.proofs.PrintSizeLemmas.{next_part, last_part}
use Rattle.canon_writer.proofs.sizes.+sizing.Goals as goal

pub parts_size-printed_size-requires : goal.parts_size-printed_size-requires
parts_size-printed_size-requires t c = (omega (arith, part_smaller c.args.parts.now c.loop-part.part-index c.part-item.result c.loop-part-test.true c.part-item.is), tt)

pub parts_size-loop-part-preserved : goal.parts_size-loop-part-preserved
parts_size-loop-part-preserved t c = λ boundary e.
    let parts = c.args.parts.now in
    let at = c.loop-part.part-index in
    let size = c.loop-part.size in
    let around = c.saturating_add-around.result in
    let around_is : around ≡ capped (length boundary + 6) = c.saturating_add-around.ensures ∙ ap (λ n. capped (n + 6)) (sym e) in
    ap (λ n. capped (n + length (print_parts boundary (trees_of (drop (at + 1) parts)))))
    (c.saturating_add-size.ensures ∙ ap (λ n. capped (n + c.printed_size.result)) c.saturating_add.ensures ∙ ap (λ n. capped (capped (size + around) + n)) c.printed_size.ensures)
    ∙ next_part boundary parts at size around c.part-item.result c.loop-part-test.true c.part-item.is around_is ∙ c.loop-part.invariant boundary e

pub parts_size-returns : goal.parts_size-returns
parts_size-returns t c = λ boundary e.
    let parts = c.args.parts.now in
    let size = c.loop-part.size in
    let around = c.saturating_add-around.result in
    let around_is : around ≡ capped (length boundary + 6) = c.saturating_add-around.ensures ∙ ap (λ n. capped (n + 6)) (sym e) in
    c.saturating_add-2.ensures ∙ last_part boundary size around around_is
    ∙ ap (λ ts. capped (size + length (print_parts boundary (trees_of ts)))) (sym (drop_all c.loop-part.part-index parts (omega (arith, c.loop-part-test.false))))
    ∙ c.loop-part.invariant boundary e
