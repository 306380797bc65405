use Rattle.std.proofs.Common.{◌≡◌}
use Rattle.system_adapters.proofs.source.StreamSourceSource.read.Given as goal

abbrev pub invariant-again : goal.invariant-again
invariant-again g l = l.self.faults ≡ l.initial.self.faults
