use Rattle.std.proofs.Common.{◌≡◌, drop}
use Rattle.canon_writer.specs.Counting.{with_bytes}
use Rattle.canon_writer.proofs.counting.with_bytes.Given as goal

-- What is counted, and the bytes that are left.
abbrev pub invariant-loop-b : goal.invariant-loop-b
invariant-loop-b l = with_bytes l.counted (drop l.b-index l.bytes) ≡ with_bytes l.fn.field l.bytes
