use Rattle.std.proofs.Common.{◌≡◌, false, List, length, refl, sym, ◌∙◌, subst, rules, arith}
use Rattle.std.proofs.lemmas.Option.{slice_get_read}
use Rattle.std.proofs.lemmas.Bool.{eqb-true}
use Rattle.std.proofs.lemmas.List.{nil_from_length}
use Rattle.mail_model.specs.Machine.{is_open}
use Rattle.mail_rounds.specs.declared.link.Link.{Link}
use Rattle.mail_rounds.specs.Calls.{Closes, GoesOn}
use Rattle.mail_rounds.specs.Held.{AtPlace, held}
use Rattle.mail_rounds.specs.Serves.{Does}
use Rattle.mail_rounds.proofs.Making.{closing_does}
use Rattle.mail_rounds.proofs.server.Server.close_or_pass.Goals as goal

pub returns-clause-goes : goal.returns-clause-goes
returns-clause-goes g c =
    let shut : is_open c.index-link.result.now.standing ≡ false = search rules in
    let queue = c.index-link.result.now.queue in
    let none : length queue.items ≡ 0 = omega (arith, queue.ok.0, eqb-true queue.len 0 (sym c.is_empty.ensures ∙ c.if-not-is_empty.false)) in
    subst (λ (links : List Link). GoesOn (Does g.C.Core.seen (AtPlace Closes c.args.self.now.links.items c.args.i) (held c.args.self.now) (record { core = c.args.self.now.core; links = links; last = c.args.self.now.last }))
    (g.P.Ports.history c.args.ports.now) (g.P.Ports.history c.close.new.self)) (sym {A = List Link} c.remove-reader.ensures.items)
    (closing_does g.C.Core.seen c.args.self.now.core c.args.self.now.links.items c.args.i c.index-link.result.now c.args.self.now.last (g.P.Ports.history c.args.ports.now) (g.P.Ports.history c.close.new.self)
    (slice_get_read c.args.self.now.links.items _ c.args.i c.index-link.result.now refl c.requires c.index-link.ensures) shut (nil_from_length queue.items none) c.close.ensures.history)
