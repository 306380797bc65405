use Rattle.std.proofs.Common.{◌≡◌, take, drop}
use Rattle.mail_text.specs.Lines.{ahead}
use Rattle.canon_writer.specs.Folding.{words}
use Rattle.canon_writer.proofs.folding.split_word.Given as goal

-- No word ends before the place.
abbrev pub invariant-loop-at : goal.invariant-loop-at
invariant-loop-at l = words l.text ≡ ahead (take l.at l.text) (words (drop l.at l.text))
