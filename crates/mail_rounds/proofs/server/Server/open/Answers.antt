use Rattle.std.proofs.Common.{List, refl, ap, ◌∙◌}
use Rattle.std.specs.List.{count_by}
use Rattle.mail_model.specs.Machine.{is_open}
use Rattle.mail_rounds.specs.declared.link.Link.{Link}
use Rattle.mail_rounds.proofs.Crashes.{files-same, greeting_idle, greeting_made}
use Rattle.mail_rounds.proofs.Keeping.{opening-is}
use Rattle.mail_rounds.proofs.server.Server.open.Goals as goal

pub returns-clause-opens : goal.returns-clause-opens
returns-clause-opens g c =
    opening-is g.C.Core.seen c.args.self.now.core c.greet.new.self c.settle-standing.new.core c.args.self.now.links.items c.add_link.new.links.items _ c.args.self.now.last c.args.number c.args.kind c.count_open-others.result c.new-queue.result.items
    c.in_ok-outcome.outcome.closes c.in_ok-outcome.outcome.awaits
    c.in_ok-add_link.ensures
    (c.count_open-others.ensures ∙ ap (λ (links : List Link). count_by (λ link. is_open link.standing) links) c.deref.ensures.value) c.new-queue.ensures.items refl c.settle-standing.ensures.standing c.next.ensures.dropped c.in_ok-outcome.ensures.done
    c.settle-standing.ensures.stands

pub returns-in_err-reader-clause-crash : goal.returns-in_err-reader-clause-crash
returns-in_err-reader-clause-crash g c =
    greeting_idle g.C.Core.seen c.args.self.now.core c.args.self.now.links.items c.args.number c.args.kind c.steps_record_their_changes.ensures.world

pub returns-in_err-outcome-clause-crash : goal.returns-in_err-outcome-clause-crash
returns-in_err-outcome-clause-crash g c =
    greeting_made g.C.Core.seen c.args.self.now.core c.greet.new.self c.greet.new.self c.args.self.now.links.items c.args.number c.args.kind c.count_open-others.result c.steps_record_their_changes.ensures.world
    (c.count_open-others.ensures ∙ ap (λ (links : List Link). count_by (λ link. is_open link.standing) links) c.deref.ensures.value)
    c.greet.ensures.crash (files-same g.C.Core.seen c.greet.new.self)

pub returns-in_err-add_link-clause-crash : goal.returns-in_err-add_link-clause-crash
returns-in_err-add_link-clause-crash g c =
    greeting_made g.C.Core.seen c.args.self.now.core c.greet.new.self c.settle-standing.new.core c.args.self.now.links.items c.args.number c.args.kind c.count_open-others.result c.steps_record_their_changes.ensures.world
    (c.count_open-others.ensures ∙ ap (λ (links : List Link). count_by (λ link. is_open link.standing) links) c.deref.ensures.value)
    c.greet.ensures.crash c.settle-standing.ensures.files

pub returns-clause-crash : goal.returns-clause-crash
returns-clause-crash g c =
    greeting_made g.C.Core.seen c.args.self.now.core c.greet.new.self c.settle-standing.new.core c.args.self.now.links.items c.args.number c.args.kind c.count_open-others.result c.steps_record_their_changes.ensures.world
    (c.count_open-others.ensures ∙ ap (λ (links : List Link). count_by (λ link. is_open link.standing) links) c.deref.ensures.value)
    c.greet.ensures.crash c.settle-standing.ensures.files
