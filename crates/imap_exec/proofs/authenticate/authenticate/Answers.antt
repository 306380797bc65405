use Rattle.std.proofs.Common.{sym, ◌∙◌}
use Rattle.imap_writer.specs.declared.refusals.Refusal.TheVariants.{State as WrongState}
use Rattle.session_view.specs.Parts.{state_of}
use Rattle.imap_steps.specs.Stepping.{Shared, refused_with}
use Rattle.imap_steps.specs.LoggingIn.{authenticate}
use Rattle.imap_steps.specs.Executing.{before_login}
use Rattle.imap_exec.proofs.Guarding.{when_fresh, unless_fresh}
use Rattle.imap_exec.proofs.Saying.{said_as}
use Rattle.imap_exec.proofs.authenticate.authenticate.Goals as goal

pub returns-then-is_fresh : goal.returns-then-is_fresh
returns-then-is_fresh c world =
    let shared : Shared = record { world = world; parts = c.args.sessions.now } in
    let state = state_of c.args.number c.args.sessions.now in
    let done = authenticate shared c.args.number c.args.tag.now c.args.mechanism.now in
    said_as c.begin.result c.begin.new.sessions c.args.answer.now.items c.begin.new.answer.items done (before_login shared c.args.tag.now state done)
    (when_fresh shared c.args.tag.now state done (sym c.is_fresh.ensures ∙ c.if-is_fresh.true)) (c.begin.ensures world)

pub returns-else-is_fresh : goal.returns-else-is_fresh
returns-else-is_fresh c world =
    let shared : Shared = record { world = world; parts = c.args.sessions.now } in
    let state = state_of c.args.number c.args.sessions.now in
    let done = authenticate shared c.args.number c.args.tag.now c.args.mechanism.now in
    said_as c.refuse.result c.args.sessions.now c.args.answer.now.items c.refuse.new.answer.items (refused_with shared c.args.tag.now WrongState) (before_login shared c.args.tag.now state done)
    (unless_fresh shared c.args.tag.now state done (sym c.is_fresh.ensures ∙ c.if-is_fresh.false)) (c.refuse.ensures shared)
