use Rattle.mail_rounds.specs.Held.{held}
use Rattle.mail_server.proofs.Linking.{round_made, round_stopped}
use Rattle.mail_server.proofs.Transfers.{OnErr-from, OnOk-from}
use Rattle.mail_server.proofs.linked.make_round.Goals as goal

pub returns-clause-done : goal.returns-clause-done
returns-clause-done g c =
    OnOk-from c.take.result _ _ (round_made g.C.Core.seen (held c.args.server.now) (held c.flush.new.self) (held c.take.new.self)
    (g.P.Ports.history c.args.ports.now) (g.P.Ports.history c.flush.new.ports) (g.P.Ports.history c.take.new.ports)
    c.worlds_reach_back.ensures.first c.worlds_reach_back.ensures.more c.changes_stand_by_their_answers.ensures.world c.flush.ensures.goes) c.take.ensures.done

pub returns-clause-part : goal.returns-clause-part
returns-clause-part g c =
    OnErr-from c.take.result _ _ (round_stopped g.C.Core.seen (held c.args.server.now) (held c.flush.new.self) (held c.take.new.self)
    (g.P.Ports.history c.args.ports.now) (g.P.Ports.history c.flush.new.ports) (g.P.Ports.history c.take.new.ports)
    c.worlds_reach_back.ensures.first c.worlds_reach_back.ensures.more c.changes_stand_by_their_answers.ensures.world c.answers_only_grow.ensures c.flush.ensures.goes) c.take.ensures.part
