use Rattle.std.proofs.Common.{ℕ, ◌∙◌, sym, subst, take}
use Rattle.port_model.specs.declared.calls.ReadAnswer.TheVariants.{Ended as HasEnded, Lost as WasLost}
use Rattle.port_model.specs.History.{Ended, Lost}
use Rattle.mail_model.specs.Machine.{Taking, take_piece}
use Rattle.mail_rounds.specs.Crashes.{TakingCrashes}
use Rattle.mail_rounds.specs.Heard.{IsTaking}
use Rattle.mail_rounds.proofs.OneLink.{asked_end, asked_part, asked_piece, no_items, on_err_always, tells_end, tells_loss}
use Rattle.mail_rounds.proofs.hearing.hear.Goals as goal

pub returns-in-Ended-clause-done : goal.returns-in-Ended-clause-done
returns-in-Ended-clause-done g c =
    let idle = no_items c.args.link.now.queue.items c.args.link.now.queue.len c.args.link.now.queue.ok.0 c.if-not-is_empty.ensures in
    asked_end g.C.Core.seen c.args.core.now c.args.link.now c.end_session.new.core c.end_session.new.link HasEnded (Ended c.args.link.now.number) (g.P.Ports.history c.args.ports.now) (g.P.Ports.history c.read.new.self)
    (tells_end c.args.link.now.number) (rw c.requires.room at c.in-Ended.ensures.history) (sym c.if-not-is_open.ensures) idle (c.end_session.ensures.queue ∙ idle) c.end_session.ensures.session c.end_session.ensures.stands
    c.steps_record_their_changes.ensures.left c.end_session.ensures.files

pub returns-in-Lost-clause-done : goal.returns-in-Lost-clause-done
returns-in-Lost-clause-done g c =
    let idle = no_items c.args.link.now.queue.items c.args.link.now.queue.len c.args.link.now.queue.ok.0 c.if-not-is_empty.ensures in
    asked_end g.C.Core.seen c.args.core.now c.args.link.now c.end_session-in-Lost.new.core c.end_session-in-Lost.new.link WasLost (Lost c.args.link.now.number) (g.P.Ports.history c.args.ports.now)
    (g.P.Ports.history c.read.new.self) (tells_loss c.args.link.now.number) (rw c.requires.room at c.in-Lost.ensures.history) (sym c.if-not-is_open.ensures) idle (c.end_session-in-Lost.ensures.queue ∙ idle)
    c.end_session-in-Lost.ensures.session c.end_session-in-Lost.ensures.stands c.steps_record_their_changes.ensures.left c.end_session-in-Lost.ensures.files

pub returns-in_ok-serve_bytes-in-Bytes-clause-done : goal.returns-in_ok-serve_bytes-in-Bytes-clause-done
returns-in_ok-serve_bytes-in-Bytes-clause-done g c =
    let idle = no_items c.args.link.now.queue.items c.args.link.now.queue.len c.args.link.now.queue.ok.0 c.if-not-is_empty.ensures in
    asked_piece g.C.Core.seen c.args.core.now c.args.link.now c.serve_bytes.new.core c.serve_bytes.new.link (take c.in-Bytes.count c.read.new.buf) c.now.result (g.P.Ports.history c.args.ports.now)
    (g.P.Ports.history c.read.new.self) (g.P.Ports.history c.now.new.self) (rw c.requires.room at c.in-Bytes.ensures.history) c.now.ensures.history (sym c.if-not-is_open.ensures) idle
    (subst (λ (at : ℕ). (taking : Taking) → IsTaking g.C.Core.seen c.args.core.now c.args.link.now taking → TakingCrashes g.C.Core.seen c.args.core.now c.serve_bytes.new.core taking (take_piece at taking (take c.in-Bytes.count c.read.new.buf)))
    c.min-moment.ensures c.serve_bytes.ensures.crash)
    (subst (λ (at : ℕ). (taking : Taking) → IsTaking g.C.Core.seen c.args.core.now c.args.link.now taking → IsTaking g.C.Core.seen c.serve_bytes.new.core c.serve_bytes.new.link (take_piece at taking (take c.in-Bytes.count c.read.new.buf)))
    c.min-moment.ensures c.in_ok-serve_bytes-in-Bytes.ensures.taken)

pub returns-in_err-serve_bytes-in-Bytes-clause-part : goal.returns-in_err-serve_bytes-in-Bytes-clause-part
returns-in_err-serve_bytes-in-Bytes-clause-part g c =
    let idle = no_items c.args.link.now.queue.items c.args.link.now.queue.len c.args.link.now.queue.ok.0 c.if-not-is_empty.ensures in
    on_err_always c.from_residual.result
    (asked_part g.C.Core.seen c.args.core.now c.args.link.now c.serve_bytes.new.core (take c.in-Bytes.count c.read.new.buf) c.now.result (g.P.Ports.history c.args.ports.now)
    (g.P.Ports.history c.read.new.self) (g.P.Ports.history c.now.new.self) (rw c.requires.room at c.in-Bytes.ensures.history) c.now.ensures.history (sym c.if-not-is_open.ensures) idle
    (subst (λ (at : ℕ). (taking : Taking) → IsTaking g.C.Core.seen c.args.core.now c.args.link.now taking → TakingCrashes g.C.Core.seen c.args.core.now c.serve_bytes.new.core taking (take_piece at taking (take c.in-Bytes.count c.read.new.buf)))
    c.min-moment.ensures c.serve_bytes.ensures.crash))
