use Rattle.std.proofs.Common.{refl}
use Rattle.std.proofs.lemmas.Option.{slice_get_read}
use Rattle.mail_rounds.proofs.Kept.{get-set-other}
use Rattle.mail_rounds.proofs.Making.{offering_does}
use Rattle.mail_rounds.proofs.server.Server.offer_at.Goals as goal

pub returns-clause-goes : goal.returns-clause-goes
returns-clause-goes g c =
    offering_does g.C.Core.seen c.args.self.now.core c.offer.new.core c.args.self.now.links.items c.args.i c.index_mut.result.now c.offer.new.link c.args.self.now.last (g.P.Ports.history c.args.ports.now) (g.P.Ports.history c.offer.new.ports)
    (slice_get_read c.args.self.now.links.items _ c.args.i c.index_mut.result.now refl c.requires.within c.index_mut.ensures.value) c.offer.ensures.number c.offer.ensures.goes

pub returns-clause-others : goal.returns-clause-others
returns-clause-others g c k ne = get-set-other c.args.self.now.links.items c.args.i k c.offer.new.link ne
