use Rattle.std.proofs.Common.{◌≡◌, ◌++◌, length}
use Rattle.port_model.specs.Transcript.{session_lines, Extends}
use Rattle.port_model.proofs.transcript.print_pieces.Given as goal

abbrev pub invariant-loop-left : goal.invariant-loop-left
invariant-loop-left l = record {
  printed : l.out.items ++ session_lines l.number l.left ≡ l.fn.out.items ++ session_lines l.number l.fn.bytes;
  kept : Extends l.fn.out.items l.out.items;
}

abbrev pub decreases-loop-left : goal.decreases-loop-left
decreases-loop-left l = length l.left
