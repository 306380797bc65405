use Rattle.std.proofs.Common.{◌≡◌, ◌++◌, take, vec_capacity}
use Rattle.transfer_codec.proofs.base64_bodies.push_all.Given as goal

abbrev pub invariant-loop-b : goal.invariant-loop-b
invariant-loop-b l = record {
  items : l.out.items ≡ l.fn.out.items ++ take l.b-index l.bytes;
  room : vec_capacity l.out ≡ vec_capacity l.fn.out;
}
