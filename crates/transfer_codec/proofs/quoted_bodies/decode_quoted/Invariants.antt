use Rattle.std.proofs.Common.{◌≡◌, ◌++◌, length}
use Rattle.mail_text.specs.Lines.{pieces}
use Rattle.transfer_codec.specs.Quoted.{decoded_quoted, lines_text}
use Rattle.transfer_codec.proofs.quoted_bodies.decode_quoted.Given as goal

-- What is written, and the lines that are left.
abbrev pub invariant-loop-line : goal.invariant-loop-line
invariant-loop-line l = l.out.items ++ lines_text (pieces l.rest) ≡ decoded_quoted l.body

abbrev pub decreases-loop-line : goal.decreases-loop-line
decreases-loop-line l = length (pieces l.rest)
