use Rattle.std.proofs.Common.{◌≤◌, length}
use Rattle.system_adapters.proofs.disk.read_full.Given as goal

abbrev pub invariant-again : goal.invariant-again
invariant-again g l = l.filled ≤ length l.buf
