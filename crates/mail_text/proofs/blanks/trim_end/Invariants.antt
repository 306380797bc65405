use Rattle.std.proofs.Common.{length, ◌≡◌, ◌≤◌, take}
use Rattle.mail_text.specs.Texts.{without_blank_end}
use Rattle.mail_text.proofs.blanks.trim_end.Given as goal

abbrev pub invariant-loop-end : goal.invariant-loop-end
invariant-loop-end l = (l.end ≤ length l.text) × (without_blank_end (take l.end l.text) ≡ without_blank_end l.text)

abbrev pub decreases-loop-end : goal.decreases-loop-end
decreases-loop-end l = l.end
