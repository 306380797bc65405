use Rattle.std.proofs.Common.{◌≡◌, ◌++◌, length, vec_capacity}
use Rattle.transfer_codec.specs.Layout.{printed64}
use Rattle.transfer_codec.proofs.base64_bodies.push_lines.Given as goal

-- What is printed, and the print of the bytes that are left.
abbrev pub invariant-loop-rest : goal.invariant-loop-rest
invariant-loop-rest l = record {
  printed : l.out.items ++ printed64 l.rest ≡ l.fn.out.items ++ printed64 l.bytes;
  room : vec_capacity l.out ≡ vec_capacity l.fn.out;
}

abbrev pub decreases-loop-rest : goal.decreases-loop-rest
decreases-loop-rest l = length l.rest
