use Rattle.std.proofs.Common.{◌+◌, length, ap, sym, ◌∙◌}
use Rattle.mail_text.specs.Lines.{pieces}
use Rattle.canon_writer.specs.Counting.{capped}
use Rattle.envelope_view.specs.Lines.{ended_lines}
use Rattle.envelope_view.proofs.LineLemmas.{next_ended}
use Rattle.envelope_view.proofs.lines.ended_lines.Goals as goal

pub loop-behind-preserved : goal.loop-behind-preserved
loop-behind-preserved c =
    ap (λ n. capped (n + length (pieces c.in-Some.behind.now))) c.saturating_add-count.ensures
    ∙ next_ended c.loop-behind.count c.loop-behind.rest.now c.in-Some.field-0-0.now c.in-Some.behind.now c.in-Some.ensures ∙ c.loop-behind.invariant

pub returns : goal.returns
unfolding ended_lines
returns c =
    c.saturating_add.ensures ∙ ap (λ ls. capped (c.loop-behind.count + length ls)) (sym c.in_default.ensures) ∙ c.loop-behind.invariant
