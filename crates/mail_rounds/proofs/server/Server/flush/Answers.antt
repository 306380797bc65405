use Rattle.mail_rounds.specs.Held.{held}
use Rattle.mail_rounds.proofs.Handing.{flush_serves, laws}
use Rattle.mail_rounds.proofs.Making.{flush_does}
use Rattle.mail_rounds.proofs.server.Server.flush.Goals as goal

pub returns-clause-goes : goal.returns-clause-goes
returns-clause-goes g c =
    flush_serves g.C.Core.seen (held c.args.self.now) (held c.close_all.new.self) _ _
    (laws c.later_changes_stand_behind.ensures.on_top c.later_changes_stand_behind.ensures.none c.changes_stand_by_their_answers.ensures.world)
    (flush_does g.C.Core.seen (held c.args.self.now) (held c.offer_all.new.self) (held c.close_all.new.self) _ _ _ c.offer_all.ensures.goes c.close_all.ensures.goes)
