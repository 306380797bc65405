use Rattle.std.proofs.Common.{◌↔◌, length}
use Rattle.mail_text.specs.Lines.{IsCrlf, lines}
use Rattle.mail_text.proofs.line_ends.is_crlf.Given as goal

-- So far each line ended with CRLF.
abbrev pub invariant-loop-line : goal.invariant-loop-line
invariant-loop-line l = IsCrlf l.rest ↔ IsCrlf l.text

abbrev pub decreases-loop-line : goal.decreases-loop-line
decreases-loop-line l = length (lines l.rest)
