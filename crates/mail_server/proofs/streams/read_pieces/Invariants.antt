use Rattle.std.proofs.Common.{◌≡◌, ◌≤◌, ◌-◌, ◌+◌, length}
use Rattle.mail_server.specs.Run.{HasRead}
use Rattle.mail_server.proofs.streams.read_pieces.Given as goal

abbrev pub invariant-pieces : goal.invariant-pieces
invariant-pieces g l = record {
  within : length l.bytes.items ≤ l.limit + 1;
  taken : HasRead l.bytes.items (g.S.Source.left l.initial.source) (g.S.Source.left l.source);
  quiet : g.S.Source.faults l.source ≡ g.S.Source.faults l.initial.source;
}

abbrev pub decreases-pieces : goal.decreases-pieces
decreases-pieces g l = l.limit + 1 - length l.bytes.items
