use Rattle.std.proofs.Common.{◌≡◌, take, drop}
use Rattle.mail_text.specs.Lines.{ahead, pieces}
use Rattle.mail_text.proofs.line_ends.split_crlf.Given as goal

-- No CRLF begins before the place.
abbrev pub invariant-loop-at : goal.invariant-loop-at
invariant-loop-at l = pieces l.text ≡ ahead (take l.at l.text) (pieces (drop l.at l.text))
