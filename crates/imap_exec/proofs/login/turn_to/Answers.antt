use Rattle.std.proofs.Common.{ℕ, [], Option, sym, subst}
use Rattle.imap_writer.specs.Tagged.{ok_line, no_line}
use Rattle.imap_writer.specs.declared.refusals.Refusal.TheVariants.{LoginFailed}
use Rattle.session_view.specs.declared.sessions.State.TheVariants.{Fresh, Known}
use Rattle.imap_steps.specs.Stepping.{Shared}
use Rattle.imap_steps.specs.LoggingIn.{logged_in}
use Rattle.imap_exec.specs.Answers.{Says}
use Rattle.imap_exec.proofs.Saying.{turned_as}
use Rattle.imap_exec.proofs.login.turn_to.Goals as goal

pub returns-in-Some : goal.returns-in-Some
returns-in-Some c world =
    let shared : Shared = record { world = world; parts = c.args.sessions.now } in
    subst (λ (u : Option ℕ). Says c.complete.result c.set_state.new.self c.args.answer.now.items c.complete.new.answer.items (logged_in shared c.args.number c.args.tag.now c.args.command.now u)) (sym c.in-Some.is)
    (turned_as c.complete.result c.args.answer.now.items c.complete.new.answer.items shared shared c.args.number (Known c.in-Some.user) (ok_line c.args.tag.now [] c.args.command.now) c.set_state.new.self c.set_state.ensures (c.complete.ensures shared))

pub returns-in-None : goal.returns-in-None
returns-in-None c world =
    let shared : Shared = record { world = world; parts = c.args.sessions.now } in
    subst (λ (u : Option ℕ). Says c.refuse.result c.set_state-in-None.new.self c.args.answer.now.items c.refuse.new.answer.items (logged_in shared c.args.number c.args.tag.now c.args.command.now u)) (sym c.in-None.is)
    (turned_as c.refuse.result c.args.answer.now.items c.refuse.new.answer.items shared shared c.args.number Fresh (no_line c.args.tag.now LoginFailed) c.set_state-in-None.new.self c.set_state-in-None.ensures (c.refuse.ensures shared))
