use Rattle.std.proofs.Common.{◌≡◌, ◌++◌, take}
use Rattle.port_model.specs.Transcript.{escaped}
use Rattle.port_model.proofs.transcript.print_escaped.Given as goal

abbrev pub invariant-loop-byte : goal.invariant-loop-byte
invariant-loop-byte l = l.out.items ≡ l.fn.out.items ++ escaped (take l.byte-index l.bytes)
