use Rattle.std.proofs.Common.{◌≡◌, ◌++◌, length}
use Rattle.mail_text.specs.Lines.{joined, lines}
use Rattle.mail_text.proofs.line_ends.crlf.Given as goal

-- What is written, and the lines that are left.
abbrev pub invariant-loop-line : goal.invariant-loop-line
invariant-loop-line l = l.out.items ++ joined (lines l.rest) ≡ joined (lines l.text)

abbrev pub decreases-loop-line : goal.decreases-loop-line
decreases-loop-line l = length (lines l.rest)
