use Rattle.std.proofs.Common.{◌≡◌, ◌≤◌, ◌+◌, ◌-◌, length, take, drop}
use Rattle.port_model.specs.Ports.{NeverFall}
use Rattle.mail_rounds.specs.Held.{held, AtEach}
use Rattle.mail_rounds.specs.Calls.{GoesOn, Closes}
use Rattle.mail_rounds.specs.Serves.{Does}
use Rattle.mail_rounds.proofs.server.Server.close_all.Given as goal

-- As many links were looked at as stand before the index or are gone, and the others are as they were.
abbrev pub invariant-closing : goal.invariant-closing
invariant-closing g l = record {
  plan : g.P.Ports.plan l.ports ≡ g.P.Ports.plan l.fn.ports;
  counts : NeverFall (g.P.Ports.listen_faults l.fn.ports) (g.P.Ports.link_faults l.fn.ports) (g.P.Ports.listen_faults l.ports) (g.P.Ports.link_faults l.ports);
  quiet : g.P.Ports.listen_faults l.ports ≡ g.P.Ports.listen_faults l.fn.ports;
  within : l.i ≤ length l.self.links.items;
  fewer : length l.self.links.items ≤ length l.fn.self.links.items;
  rest : drop l.i l.self.links.items ≡ drop (l.i + (length l.fn.self.links.items - length l.self.links.items)) l.fn.self.links.items;
  goes : GoesOn (Does g.C.Core.seen (AtEach Closes (take (l.i + (length l.fn.self.links.items - length l.self.links.items)) l.fn.self.links.items)) (held l.fn.self) (held l.self))
      (g.P.Ports.history l.fn.ports) (g.P.Ports.history l.ports);
  core : l.self.core ≡ l.fn.self.core;
  spent : l.self.spent ≡ l.fn.self.spent;
}

abbrev pub decreases-closing : goal.decreases-closing
decreases-closing g l = length l.self.links.items - l.i
