use Rattle.std.proofs.Common.{◌+◌, length, drop, ◌∙◌, ap}
use Rattle.canon_writer.specs.Counting.{capped}
use Rattle.canon_writer.specs.Printing.{print_header}
use Rattle.canon_writer.proofs.PrintSizeLemmas.{next_field}
use Rattle.canon_writer.proofs.sizes.printed_header_size.Goals as goal

pub loop-field-preserved : goal.loop-field-preserved
loop-field-preserved c =
    let fields = c.args.fields.now in
    let at = c.loop-field.field-index in
    let size = c.loop-field.size in
    ap (λ n. capped (n + length (print_header (drop (at + 1) fields)))) (c.saturating_add-size.ensures ∙ ap (λ n. capped (size + n)) c.field_size.ensures)
    ∙ next_field fields at size c.field-item.result c.loop-field-test.true c.field-item.is ∙ c.loop-field.invariant
