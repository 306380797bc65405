use Rattle.std.proofs.Common.{ℕ, ◌≡◌, ◌≤◌, length, take}
use Rattle.std.specs.List.{slice_get}
use Rattle.port_model.specs.Ports.{NeverFall}
use Rattle.mail_rounds.specs.Held.{held, AtEach}
use Rattle.mail_rounds.specs.Calls.{GoesOn, Asks}
use Rattle.mail_rounds.specs.Serves.{Does}
use Rattle.mail_rounds.proofs.server.Server.ask_all.Given as goal

-- The links so far were asked, and the others are as they were.
abbrev pub invariant-asks : goal.invariant-asks
invariant-asks g l = record {
  plan : g.P.Ports.plan l.ports ≡ g.P.Ports.plan l.fn.ports;
  counts : NeverFall (g.P.Ports.listen_faults l.fn.ports) (g.P.Ports.link_faults l.fn.ports) (g.P.Ports.listen_faults l.ports) (g.P.Ports.link_faults l.ports);
  quiet : g.P.Ports.listen_faults l.ports ≡ g.P.Ports.listen_faults l.fn.ports;
  goes : GoesOn (Does g.C.Core.seen (AtEach Asks (take l.i l.fn.self.links.items)) (held l.fn.self) (held l.self)) (g.P.Ports.history l.fn.ports) (g.P.Ports.history l.ports);
  others : (k : ℕ) → l.i ≤ k → slice_get l.self.links.items k ≡ slice_get l.fn.self.links.items k;
  same_length : length l.self.links.items ≡ length l.fn.self.links.items;
  ready : g.C.Core.seen.ready l.self.core;
  stored : g.C.Core.seen.faults l.self.core ≡ g.C.Core.seen.faults l.fn.self.core;
  spent : l.self.spent ≡ l.fn.self.spent;
}
