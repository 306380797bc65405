use Rattle.std.proofs.Common.{ℕ, ◌≡◌, length, take, subst, arith}
use Rattle.mail_rounds.specs.Calls.{GoesOn, Asks}
use Rattle.mail_rounds.specs.Held.{held, AsksPart, AtEach}
use Rattle.mail_rounds.specs.Serves.{Begins, Does}
use Rattle.mail_rounds.proofs.Handing.{laws, part_serves, take_serves}
use Rattle.mail_rounds.proofs.Making.{accept_begins, take_begins, take_does}
use Rattle.mail_rounds.proofs.OneLink.{on_err_always}
use Rattle.mail_rounds.proofs.server.Server.take.Goals as goal

pub returns-clause-done : goal.returns-clause-done
returns-clause-done g c =
    let count : c.len-count.result ≡ length c.args.self.now.links.items = omega arith in
    take_serves g.C.Core.seen (held c.args.self.now) (held c.ask_all.new.self) (g.P.Ports.history c.args.ports.now) (g.P.Ports.history c.ask_all.new.ports)
    (laws c.later_changes_stand_behind.ensures.on_top c.later_changes_stand_behind.ensures.none c.changes_stand_by_their_answers.ensures.world)
    (take_does g.C.Core.seen (held c.args.self.now) (held c.accept.new.self) (held c.ask_all.new.self) (g.P.Ports.history c.args.ports.now) (g.P.Ports.history c.accept.new.ports) (g.P.Ports.history c.ask_all.new.ports)
    c.in_ok-accept.ensures.front c.in_ok-accept.ensures.done
    (subst (λ (n : ℕ). GoesOn (Does g.C.Core.seen (AtEach Asks (take n c.accept.new.self.links.items)) (held c.accept.new.self) (held c.ask_all.new.self)) (g.P.Ports.history c.accept.new.ports) (g.P.Ports.history c.ask_all.new.ports)) count
    c.in_ok-ask_all.ensures.done))

pub returns-in_err-ask_all-clause-part : goal.returns-in_err-ask_all-clause-part
returns-in_err-ask_all-clause-part g c =
    let count : c.len-count.result ≡ length c.args.self.now.links.items = omega arith in
    on_err_always _
    (part_serves g.C.Core.seen (held c.args.self.now) (held c.ask_all.new.self) (g.P.Ports.history c.args.ports.now) (g.P.Ports.history c.ask_all.new.ports)
    (laws c.later_changes_stand_behind.ensures.on_top c.later_changes_stand_behind.ensures.none c.changes_stand_by_their_answers.ensures.world)
    (take_begins g.C.Core.seen (held c.args.self.now) (held c.accept.new.self) (held c.ask_all.new.self) (g.P.Ports.history c.args.ports.now) (g.P.Ports.history c.accept.new.ports) (g.P.Ports.history c.ask_all.new.ports)
    c.in_ok-accept.ensures.front c.in_ok-accept.ensures.done
    (subst (λ (n : ℕ). GoesOn (Begins g.C.Core.seen (AsksPart n c.accept.new.self.links.items) (held c.accept.new.self) (held c.ask_all.new.self)) (g.P.Ports.history c.accept.new.ports) (g.P.Ports.history c.ask_all.new.ports)) count
    c.in_err-ask_all.ensures.part)))

-- no link was asked
pub returns-in_err-accept-clause-part : goal.returns-in_err-accept-clause-part
returns-in_err-accept-clause-part g c =
    on_err_always _
    (part_serves g.C.Core.seen (held c.args.self.now) (held c.accept.new.self) (g.P.Ports.history c.args.ports.now) (g.P.Ports.history c.accept.new.ports)
    (laws c.later_changes_stand_behind.ensures.on_top c.later_changes_stand_behind.ensures.none c.changes_stand_by_their_answers.ensures.world)
    (accept_begins g.C.Core.seen (held c.args.self.now) (held c.accept.new.self) (g.P.Ports.history c.args.ports.now) (g.P.Ports.history c.accept.new.ports) c.in_err-accept.ensures.part))
