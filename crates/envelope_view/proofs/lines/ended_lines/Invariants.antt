use Rattle.std.proofs.Common.{◌≡◌, ◌+◌, length}
use Rattle.mail_text.specs.Lines.{pieces}
use Rattle.canon_writer.specs.Counting.{capped}
use Rattle.envelope_view.proofs.lines.ended_lines.Given as goal

-- What is counted, and the text that is left.
abbrev pub invariant-loop-behind : goal.invariant-loop-behind
invariant-loop-behind l = capped (l.count + length (pieces l.rest)) ≡ capped (length (pieces l.text))

abbrev pub decreases-loop-behind : goal.decreases-loop-behind
decreases-loop-behind l = length (pieces l.rest)
