use Rattle.std.proofs.Common.{◌≡◌, ◌++◌, length, map}
use Rattle.mail_text.specs.Lines.{pieces}
use Rattle.mail_text.proofs.line_ends.lines.Given as goal

-- The pieces found, and those that are left.
abbrev pub invariant-loop-line : goal.invariant-loop-line
invariant-loop-line l = map (λ x. x.now) l.out.items ++ pieces l.rest ≡ pieces l.text

abbrev pub decreases-loop-line : goal.decreases-loop-line
decreases-loop-line l = length (pieces l.rest)
