use Rattle.std.proofs.lemmas.Result.{on_ok_weaker, on_err_weaker}
use Rattle.mail_rounds.specs.Held.{held}
use Rattle.mail_rounds.proofs.Handing.{laws, round_part_serves, round_serves}
use Rattle.mail_rounds.proofs.server.Server.round.Goals as goal

pub returns-clause-done : goal.returns-clause-done
returns-clause-done g c =
    on_ok_weaker c.take.result
    (round_serves g.C.Core.seen (held c.args.self.now) (held c.flush.new.self) (held c.take.new.self) _ _ _
    (laws c.later_changes_stand_behind.ensures.on_top c.later_changes_stand_behind.ensures.none c.changes_stand_by_their_answers.ensures.world) c.flush.ensures.goes)
    c.take.ensures.done

pub returns-clause-part : goal.returns-clause-part
returns-clause-part g c =
    on_err_weaker c.take.result
    (round_part_serves g.C.Core.seen (held c.args.self.now) (held c.flush.new.self) (held c.take.new.self) _ _ _
    (laws c.later_changes_stand_behind.ensures.on_top c.later_changes_stand_behind.ensures.none c.changes_stand_by_their_answers.ensures.world) c.flush.ensures.goes)
    c.take.ensures.part
