use Rattle.std.proofs.Common.{◌≢◌, ◌-◌, ◌^◌, rules}
use Rattle.mail_rounds.specs.Held.{held}
use Rattle.mail_rounds.proofs.Making.{opening_begins, opening_does, waiting_does}
use Rattle.mail_rounds.proofs.OneLink.{on_err_always}
use Rattle.mail_rounds.proofs.server.Server.accept.Goals as goal

pub returns-in_ok-open-in-Ok-Some-clause-done : goal.returns-in_ok-open-in-Ok-Some-clause-done
returns-in_ok-open-in-Ok-Some-clause-done g c =
    let room : c.args.self.now.last ≢ 2 ^ 32 - 1 = search rules in
    opening_does g.C.Core.seen (held c.args.self.now) (held c.open.new.self) c.in-Ok-Some.kind (g.P.Ports.history c.args.ports.now) (g.P.Ports.history c.accept.new.self) room (rw c.in-Ok-Some.field-0-is at c.in-Ok-Some.ensures.history)
    c.open.ensures.crash c.in_ok-open-in-Ok-Some.ensures.opens

pub returns-in_err-open-in-Ok-Some-clause-part : goal.returns-in_err-open-in-Ok-Some-clause-part
returns-in_err-open-in-Ok-Some-clause-part g c =
    let room : c.args.self.now.last ≢ 2 ^ 32 - 1 = search rules in
    on_err_always c.from_residual.result
    (opening_begins g.C.Core.seen (held c.args.self.now) (held c.open.new.self) c.in-Ok-Some.kind (g.P.Ports.history c.args.ports.now) (g.P.Ports.history c.accept.new.self) room (rw c.in-Ok-Some.field-0-is at c.in-Ok-Some.ensures.history)
    c.open.ensures.crash)

pub returns-in-Ok-None-clause-done : goal.returns-in-Ok-None-clause-done
returns-in-Ok-None-clause-done g c =
    let room : c.args.self.now.last ≢ 2 ^ 32 - 1 = search rules in
    waiting_does g.C.Core.seen (held c.args.self.now) (g.P.Ports.history c.args.ports.now) (g.P.Ports.history c.accept.new.self) room (rw c.in-Ok-None.field-0-is at c.in-Ok-None.ensures.history)
