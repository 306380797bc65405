use Rattle.std.proofs.Common.{codes, sym, ◌∙◌}
use Rattle.imap_writer.specs.declared.refusals.Refusal.TheVariants.{State as WrongState}
use Rattle.session_view.specs.Parts.{state_of}
use Rattle.imap_steps.specs.Stepping.{Shared, completed, refused_with}
use Rattle.imap_steps.specs.Executing.{while_selected}
use Rattle.imap_exec.proofs.Guarding.{when_selected, unless_selected}
use Rattle.imap_exec.proofs.Saying.{said_as}
use Rattle.imap_exec.proofs.simple.check.Goals as goal

pub returns-then-is_selected : goal.returns-then-is_selected
returns-then-is_selected c world =
    let shared : Shared = record { world = world; parts = c.args.sessions.now } in
    let state = state_of c.args.number c.args.sessions.now in
    let done = completed shared c.args.tag.now (codes "CHECK") in
    said_as c.complete.result c.args.sessions.now c.args.answer.now.items c.complete.new.answer.items done (while_selected shared c.args.tag.now state done)
    (when_selected shared c.args.tag.now state done (sym c.is_selected.ensures ∙ c.if-is_selected.true)) (c.complete.ensures shared)

pub returns-else-is_selected : goal.returns-else-is_selected
returns-else-is_selected c world =
    let shared : Shared = record { world = world; parts = c.args.sessions.now } in
    let state = state_of c.args.number c.args.sessions.now in
    let done = completed shared c.args.tag.now (codes "CHECK") in
    said_as c.refuse.result c.args.sessions.now c.args.answer.now.items c.refuse.new.answer.items (refused_with shared c.args.tag.now WrongState) (while_selected shared c.args.tag.now state done)
    (unless_selected shared c.args.tag.now state done (sym c.is_selected.ensures ∙ c.if-is_selected.false)) (c.refuse.ensures shared)
