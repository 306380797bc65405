use Rattle.std.proofs.Common.{refl}
use Rattle.std.proofs.lemmas.Result.{on_err_weaker, on_ok_weaker}
use Rattle.std.proofs.lemmas.Option.{slice_get_read}
use Rattle.mail_rounds.proofs.Kept.{get-set-other}
use Rattle.mail_rounds.proofs.Making.{hearing_begins, hearing_does}
use Rattle.mail_rounds.proofs.server.Server.ask.Goals as goal

pub returns-clause-done : goal.returns-clause-done
returns-clause-done g c =
    on_ok_weaker c.hear.result
    (hearing_does g.C.Core.seen c.args.self.now.core c.hear.new.core c.args.self.now.links.items c.args.i c.index_mut.result.now c.hear.new.link c.args.self.now.last (g.P.Ports.history c.args.ports.now) (g.P.Ports.history c.hear.new.ports)
    (slice_get_read c.args.self.now.links.items _ c.args.i c.index_mut.result.now refl c.requires.within c.index_mut.ensures.value) c.hear.ensures.number)
    c.hear.ensures.done

pub returns-clause-part : goal.returns-clause-part
returns-clause-part g c =
    on_err_weaker c.hear.result
    (hearing_begins g.C.Core.seen c.args.self.now.core c.hear.new.core c.args.self.now.links.items c.args.i c.index_mut.result.now c.hear.new.link c.args.self.now.last (g.P.Ports.history c.args.ports.now) (g.P.Ports.history c.hear.new.ports)
    (slice_get_read c.args.self.now.links.items _ c.args.i c.index_mut.result.now refl c.requires.within c.index_mut.ensures.value))
    c.hear.ensures.part

pub returns-clause-others : goal.returns-clause-others
returns-clause-others g c k ne = get-set-other c.args.self.now.links.items c.args.i k c.hear.new.link ne
