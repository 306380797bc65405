use Rattle.std.proofs.Common.{◌≤◌, ◌-◌, length}
use Rattle.lmtp_core.specs.Reading.{HasRoom, Takes, read_at, room_for}
use Rattle.lmtp_core.proofs.reading.take_all.Given as goal

abbrev pub invariant-steps : goal.invariant-steps
invariant-steps l = record {
  takes : Takes (read_at l.fn.place l.initial.kept) (read_at l.place l.kept) l.piece l.count;
  within : l.count ≤ length l.piece;
  room : HasRoom l.kept (room_for l.place (length l.piece - l.count));
}

abbrev pub decreases-steps : goal.decreases-steps
decreases-steps l = length l.piece - l.count
