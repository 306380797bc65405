use Rattle.std.proofs.Common.{◌∙◌, ap}
use Rattle.canon_writer.specs.Counting.{capped}
use Rattle.envelope_view.specs.Lines.{line_count}
use Rattle.envelope_view.proofs.LineLemmas.{header-lines}
use Rattle.envelope_view.proofs.counting.header_lines.Goals as goal

pub returns : goal.returns
returns c =
    c.line_count.ensures ∙ ap (λ text. capped (line_count text)) (c.deref.ensures.value ∙ c.in_ok-text.ensures) ∙ ap capped (header-lines c.args.fields.now)
