use Rattle.std.proofs.Common.{◌≡◌, take}
use Rattle.disk_model.specs.Memory.{at_rest, after}
use Rattle.disk_model.specs.Past.{state_in}
use Rattle.disk_model.proofs.replaying.replay.Given as goal

abbrev pub invariant-loop-change : goal.invariant-loop-change
invariant-loop-change l = state_in l.past ≡ after (at_rest l.first) (take l.change-index l.changes)
