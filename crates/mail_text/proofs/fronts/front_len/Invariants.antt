use Rattle.std.proofs.Common.{length, ◌-◌}
use Rattle.mail_text.proofs.FrontLemmas.{Passed}
use Rattle.mail_text.proofs.fronts.front_len.Given as goal

abbrev pub invariant-loop-end : goal.invariant-loop-end
invariant-loop-end g l = Passed g.C.ByteClass.test l.text l.end

abbrev pub decreases-loop-end : goal.decreases-loop-end
decreases-loop-end g l = length l.text - l.end
