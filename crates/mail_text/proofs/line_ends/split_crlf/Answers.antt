use Rattle.std.proofs.Common.{◌+◌, ◌<◌, length, arith}
use Rattle.std.proofs.lemmas.Bool.{and_left, and_right, ne_eqb}
use Rattle.mail_text.specs.Lines.{pieces}
use Rattle.mail_text.proofs.PieceLemmas.{pieces-some, ahead_none, none_more, none_at_all}
use Rattle.mail_text.proofs.line_ends.split_crlf.Goals as goal
use Rattle.mail_text.proofs.line_ends.split_crlf.Goals.{else-text-at-eq13-via-then-text-at-eq13+else-text-at-eq10, else-text-at-eq13-via-else-text-at-eq13}

pub loop-at-init : goal.loop-at-init
loop-at-init c = ahead_none (pieces c.args.text.now) (pieces-some c.args.text.now)

pub loop-at-preserved : goal.loop-at-preserved
loop-at-preserved c =
    let text = c.args.text.now in
    let at = c.loop-at.at in
    let within : at + 1 < length text = omega (arith, c.loop-at-test.true, c.saturating_sub-at-end.ensures) in
    elim c.else-text-at-eq13.branch [
      | else-text-at-eq13-via-then-text-at-eq13+else-text-at-eq10 w ↦ none_more text at within (and_right _ _ (ne_eqb _ _ w.if-text-at-eq10.false)) c.loop-at.invariant
      | else-text-at-eq13-via-else-text-at-eq13 w ↦ none_more text at within (and_left _ _ (ne_eqb _ _ w.if-text-at-eq13.false)) c.loop-at.invariant
    ]

pub returns : goal.returns
returns c = none_at_all c.args.text.now c.loop-at.at (omega (arith, c.loop-at-test.false, c.saturating_sub-at-end.ensures)) c.loop-at.invariant
