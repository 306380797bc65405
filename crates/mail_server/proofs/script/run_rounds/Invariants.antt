use Rattle.std.proofs.Common.{◌≡◌, ◌≤◌, ◌+◌, ◌-◌, length}
use Rattle.port_model.specs.Playing.{playing}
use Rattle.imap_steps.specs.Stepping.{World}
use Rattle.mail_model.specs.Machine.{after}
use Rattle.mail_rounds.specs.Held.{held}
use Rattle.mail_rounds.specs.Serves.{IsGoing}
use Rattle.mail_server.specs.OnScript.{IsOnScript, LeavesMade}
use Rattle.mail_server.proofs.script.run_rounds.Given as goal

-- Where the server holds what the machine has, each round took an event.
abbrev pub invariant-rounds : goal.invariant-rounds
invariant-rounds g l = record {
  going : IsGoing g.C.Core.seen l.server;
  plan : l.ports.plan ≡ l.fn.ports.plan;
  on_script : (first : World) → IsOnScript g.C.Core.seen first l.fn.ports.plan.events l.fn.ports (held l.fn.server)
      → IsOnScript g.C.Core.seen first l.fn.ports.plan.events l.ports (held l.server) × (length (playing l.ports.plan l.ports.calls).left + l.turns ≤ l.most);
  leaves : (first : World) → IsOnScript g.C.Core.seen first l.fn.ports.plan.events l.fn.ports (held l.fn.server)
      → LeavesMade g.C.Core.seen (held l.fn.server).core (held l.server).core first (after first l.ports.calls).changes;
  stored : g.C.Core.seen.faults (held l.server).core ≡ g.C.Core.seen.faults (held l.fn.server).core;
}

abbrev pub decreases-rounds : goal.decreases-rounds
decreases-rounds g l = l.most - l.turns
