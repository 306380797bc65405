use Rattle.std.proofs.Common.{ℕ, List, subst}
use Rattle.port_model.specs.declared.calls.PortCall.TheVariants.{Send}
use Rattle.port_model.specs.declared.calls.PortSend.TheVariants.{Lost as SendLost}
use Rattle.port_model.specs.Ports.{Records}
use Rattle.mail_rounds.proofs.OneLink.{offered_lost, some_items}
use Rattle.mail_rounds.proofs.sending.offer.Goals as goal

pub returns-in-Lost-clause-goes : goal.returns-in-Lost-clause-goes
returns-in-Lost-clause-goes g c =
    offered_lost g.C.Core.seen c.args.core.now c.args.link.now c.end_session.new.core _ (g.P.Ports.history c.args.ports.now) (g.P.Ports.history c.send.new.self)
    (subst (λ (bytes : List ℕ). Records (Send c.args.link.now.number bytes SendLost) (g.P.Ports.history c.args.ports.now) (g.P.Ports.history c.send.new.self)) c.deref.ensures.value c.in-Lost.ensures.history)
    (some_items c.args.link.now.queue.items c.args.link.now.queue.len c.args.link.now.queue.ok.0 c.if-is_empty.ensures) c.clear.ensures.items c.end_session.ensures.session c.end_session.ensures.stands
    c.steps_record_their_changes.ensures.left c.end_session.ensures.files
