use Rattle.std.proofs.Common.{ℕ, ◌≡◌, ◌≤◌, length, take}
use Rattle.std.specs.List.{slice_get}
use Rattle.port_model.specs.Ports.{NeverFall}
use Rattle.mail_rounds.specs.CoreSeen.{LeavesFiles}
use Rattle.mail_rounds.specs.Held.{held, AtEach}
use Rattle.mail_rounds.specs.Calls.{GoesOn, Offers}
use Rattle.mail_rounds.specs.Serves.{Does}
use Rattle.mail_rounds.proofs.server.Server.offer_all.Given as goal

-- The links so far were offered their queues, and the others are as they were.
abbrev pub invariant-offers : goal.invariant-offers
invariant-offers g l = record {
  plan : g.P.Ports.plan l.ports ≡ g.P.Ports.plan l.fn.ports;
  counts : NeverFall (g.P.Ports.listen_faults l.fn.ports) (g.P.Ports.link_faults l.fn.ports) (g.P.Ports.listen_faults l.ports) (g.P.Ports.link_faults l.ports);
  quiet : g.P.Ports.listen_faults l.ports ≡ g.P.Ports.listen_faults l.fn.ports;
  goes : GoesOn (Does g.C.Core.seen (AtEach Offers (take l.i l.fn.self.links.items)) (held l.fn.self) (held l.self)) (g.P.Ports.history l.fn.ports) (g.P.Ports.history l.ports);
  others : (k : ℕ) → l.i ≤ k → slice_get l.self.links.items k ≡ slice_get l.fn.self.links.items k;
  count : length l.self.links.items ≡ length l.fn.self.links.items;
  ready : g.C.Core.seen.ready l.self.core;
  files : LeavesFiles g.C.Core.seen l.fn.self.core l.self.core;
  spent : l.self.spent ≡ l.fn.self.spent;
}
