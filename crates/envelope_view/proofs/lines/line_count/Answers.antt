use Rattle.std.proofs.Common.{◌+◌, ap, ◌∙◌}
use Rattle.mail_text.specs.Lines.{pieces}
use Rattle.canon_writer.specs.Counting.{capped}
use Rattle.envelope_view.specs.Lines.{line_count, whole_lines}
use Rattle.envelope_view.proofs.LineLemmas.{next_piece, last_empty, last_some}
use Rattle.envelope_view.proofs.lines.line_count.Goals as goal
use Rattle.envelope_view.proofs.lines.line_count.Goals.{then-is_empty, else-is_empty}

pub loop-behind-preserved : goal.loop-behind-preserved
loop-behind-preserved c =
    ap (λ n. capped (n + whole_lines (pieces c.in-Some.behind.now))) c.saturating_add-count.ensures
    ∙ next_piece c.loop-behind.count c.loop-behind.rest.now c.in-Some.field-0-0.now c.in-Some.behind.now c.in-Some.ensures ∙ c.loop-behind.invariant

pub returns : goal.returns
unfolding line_count
returns c =
    let count = c.loop-behind.count in
    let rest = c.loop-behind.rest.now in
    c.saturating_add.ensures
    ∙ elim c.if-is_empty.branch [
      | then-is_empty w ↦ ap (λ n. capped (count + n)) w.saturating_add-is ∙ last_empty count rest c.in_default.ensures w.if-is_empty.ensures
      | else-is_empty w ↦ ap (λ n. capped (count + n)) w.saturating_add-is ∙ last_some count rest c.in_default.ensures w.if-is_empty.ensures
    ]
    ∙ c.loop-behind.invariant
