use Rattle.std.proofs.Common.{◌++◌, ◌∙◌, ap, ◌+◌, drop}
use Rattle.canon_writer.specs.Printing.{header_lines, ended}
use Rattle.canon_writer.proofs.HeaderLemmas.{header_more}
use Rattle.canon_writer.proofs.printing.append_header.Goals as goal

pub loop-field-preserved : goal.loop-field-preserved
loop-field-preserved c =
    let fields = c.args.fields.now in
    let at = c.loop-field.field-index in
    ap (λ z. z ++ ended (header_lines (drop (at + 1) fields))) c.in_ok-append_field.ensures
    ∙ header_more fields at c.field-item.result c.loop-field.out.items c.loop-field-test.true c.field-item.is ∙ c.loop-field.invariant
