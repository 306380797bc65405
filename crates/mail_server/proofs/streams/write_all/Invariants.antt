use Rattle.std.proofs.Common.{◌≡◌, ◌≤◌, ◌-◌, [], length, take}
use Rattle.port_model.specs.Streams.{Appends}
use Rattle.mail_server.proofs.streams.write_all.Given as goal

abbrev pub invariant-writes : goal.invariant-writes
invariant-writes g l = record {
  within : l.at ≤ length l.bytes;
  appended : Appends (take l.at l.bytes) (g.K.Sink.written l.initial.sink) (g.K.Sink.written l.sink);
  quiet : g.K.Sink.faults l.sink ≡ g.K.Sink.faults l.initial.sink;
  silent : l.bytes ≡ [] → l.sink ≡ l.initial.sink;
}

abbrev pub decreases-writes : goal.decreases-writes
decreases-writes g l = length l.bytes - l.at
