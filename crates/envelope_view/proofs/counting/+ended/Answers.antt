use Rattle.std.proofs.Common.{◌+◌, drop, sym, ◌∙◌, ap, arith}
use Rattle.std.proofs.lemmas.List.{drop_all}
use Rattle.mime_tree.specs.Contents.{content_of, trees_of}
use Rattle.mime_reader.specs.Kinds.{boundary_of}
use Rattle.canon_writer.specs.Counting.{capped}
use Rattle.canon_writer.specs.Printing.{print_body, print_parts}
use Rattle.envelope_view.specs.Lines.{ended_lines, line_count}
use Rattle.envelope_view.proofs.PartLemmas.{part_smaller}
use Rattle.envelope_view.proofs.LineLemmas.{ended_counted, parts_counted, next_part, last_part}
use Rattle.envelope_view.proofs.counting.+ended.Goals as goal

pub parts_lines-ended_message_lines-requires : goal.parts_lines-ended_message_lines-requires
parts_lines-ended_message_lines-requires t c = (omega (arith, part_smaller c.args.parts.now c.loop-part.part-index c.part-item.result c.loop-part-test.true c.part-item.is), tt)

pub ended_message_lines-returns : goal.ended_message_lines-returns
ended_message_lines-returns t c =
    c.saturating_add.ensures
    ∙ ended_counted c.deref.result.now c.deref-2.result.now c.message.inside.fields.items (content_of c.message.inside.body) c.args.message.now c.in_ok-header.header c.in_ok-body.body
    c.deref.ensures.value c.deref-2.ensures.value c.message.view_is c.in_ok-header.ensures c.in_ok-body.ensures

pub ended_body_lines-returns-in_ok-lines-in-Multi : goal.ended_body_lines-returns-in_ok-lines-in-Multi
ended_body_lines-returns-in_ok-lines-in-Multi t c =
    let boundary = c.deref.result.now in
    let parts = c.deref-in-Multi.result.now in
    c.saturating_add.ensures ∙ parts_counted boundary (trees_of parts) c.in_ok-lines-in-Multi.lines c.in_ok-lines-in-Multi.ensures
    ∙ ap (λ b. capped (ended_lines (print_parts b (trees_of parts)))) (c.deref.ensures.value ∙ c.in_ok-boundary-in-Multi.ensures)
    ∙ ap (λ ts. capped (ended_lines (print_parts (boundary_of c.args.fields.now) (trees_of ts)))) c.deref-in-Multi.ensures.value
    ∙ ap (λ body. capped (ended_lines (print_body (boundary_of c.args.fields.now) (content_of body)))) (sym c.in-Multi.is)

pub parts_lines-loop-part-preserved : goal.parts_lines-loop-part-preserved
parts_lines-loop-part-preserved t c =
    let boundary = c.args.boundary.now in
    let parts = c.args.parts.now in
    let at = c.loop-part.part-index in
    let rest = line_count (print_parts boundary (trees_of (drop (at + 1) parts))) in
    ap (λ n. capped (n + rest)) (c.saturating_add-count.ensures ∙ ap (λ n. capped (n + c.in_ok-lines.lines)) c.saturating_add.ensures)
    ∙ next_part boundary parts at c.loop-part.count c.ended_lines-around.result c.in_ok-lines.lines c.part-item.result c.loop-part-test.true c.part-item.is c.ended_lines-around.ensures c.in_ok-lines.ensures
    ∙ c.loop-part.invariant

pub parts_lines-returns : goal.parts_lines-returns
parts_lines-returns t c =
    let boundary = c.args.boundary.now in
    let parts = c.args.parts.now in
    let count = c.loop-part.count in
    c.saturating_add-2.ensures ∙ last_part boundary count c.ended_lines-around.result c.ended_lines-around.ensures
    ∙ ap (λ ts. capped (count + line_count (print_parts boundary (trees_of ts)))) (sym (drop_all c.loop-part.part-index parts (omega (arith, c.loop-part-test.false))))
    ∙ c.loop-part.invariant
