use Rattle.std.proofs.Common.{◌≤◌, ◌+◌, length}
use Rattle.port_model.specs.OpenSessions.{TellOpen}
use Rattle.port_model.proofs.ScriptLemmas.{AreDone}
use Rattle.port_model.proofs.script.parse_script.Given as goal

abbrev pub invariant-loop-left : goal.invariant-loop-left
invariant-loop-left l = record {
  done : AreDone l.fn.text l.left l.events.items l.number;
  sessions : TellOpen l.events.items l.sessions;
  lines : l.number + length l.left ≤ length l.fn.text;
}

abbrev pub decreases-loop-left : goal.decreases-loop-left
decreases-loop-left l = length l.left
