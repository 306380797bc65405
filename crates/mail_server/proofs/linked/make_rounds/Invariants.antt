use Rattle.std.proofs.Common.{◌≡◌, ◌≤◌, ◌-◌, []}
use Rattle.imap_steps.specs.Stepping.{World}
use Rattle.mail_rounds.specs.Held.{held}
use Rattle.mail_rounds.specs.Serves.{IsGoing, Serves}
use Rattle.mail_server.specs.LinkHistories.{OnLinks}
use Rattle.mail_server.specs.LinkRounds.{MadeAll}
use Rattle.mail_server.proofs.linked.make_rounds.Given as goal

abbrev pub invariant-rounds : goal.invariant-rounds
invariant-rounds g l = record {
  going : IsGoing g.C.Core.seen l.server;
  within : l.turns ≤ l.rounds;
  made : OnLinks g.P.Ports.history l.fn.ports l.ports (λ calls. (first : World) → Serves g.C.Core.seen first [] (held l.fn.server)
      → MadeAll g.C.Core.seen first l.turns calls (held l.fn.server) (held l.server));
  quiet : g.P.Ports.listen_faults l.ports ≡ g.P.Ports.listen_faults l.fn.ports;
  stored : g.C.Core.seen.faults (held l.server).core ≡ g.C.Core.seen.faults (held l.fn.server).core;
}

abbrev pub decreases-rounds : goal.decreases-rounds
decreases-rounds g l = l.rounds - l.turns
