use Rattle.std.proofs.Common.{sym, ◌∙◌}
use Rattle.imap_writer.specs.declared.refusals.Refusal.TheVariants.{State as WrongState}
use Rattle.session_view.specs.Parts.{state_of}
use Rattle.mail_world.specs.Worlds.{World}
use Rattle.imap_steps.specs.Stepping.{Shared, refused_with}
use Rattle.imap_steps.specs.LoggingIn.{login}
use Rattle.imap_steps.specs.Executing.{before_login}
use Rattle.imap_exec.proofs.Guarding.{when_fresh, unless_fresh}
use Rattle.imap_exec.proofs.Saying.{executed_as, said_always}
use Rattle.imap_exec.proofs.login.login.Goals as goal

pub returns-then-is_fresh : goal.returns-then-is_fresh
returns-then-is_fresh g c =
    let store = c.args.store.now in
    let parts = c.args.sessions.now in
    let tag = c.args.tag.now in
    let state = state_of c.args.number parts in
    executed_as g.D.Disk.told c.log_in.result store store parts c.log_in.new.sessions c.args.answer.now.items c.log_in.new.answer.items
    (λ shared. login shared c.args.number tag c.args.name.now c.args.password.now)
    (λ shared. before_login shared tag (state_of c.args.number shared.parts) (login shared c.args.number tag c.args.name.now c.args.password.now))
    (λ (world : World). let shared : Shared = record { world = world; parts = parts } in
    when_fresh shared tag state (login shared c.args.number tag c.args.name.now c.args.password.now) (sym c.is_fresh.ensures ∙ c.if-is_fresh.true)) c.log_in.ensures

pub returns-else-is_fresh : goal.returns-else-is_fresh
returns-else-is_fresh g c =
    let store = c.args.store.now in
    let parts = c.args.sessions.now in
    let tag = c.args.tag.now in
    let state = state_of c.args.number parts in
    executed_as g.D.Disk.told c.refuse.result store store parts parts c.args.answer.now.items c.refuse.new.answer.items
    (λ shared. refused_with shared tag WrongState)
    (λ shared. before_login shared tag (state_of c.args.number shared.parts) (login shared c.args.number tag c.args.name.now c.args.password.now))
    (λ (world : World). let shared : Shared = record { world = world; parts = parts } in
    unless_fresh shared tag state (login shared c.args.number tag c.args.name.now c.args.password.now) (sym c.is_fresh.ensures ∙ c.if-is_fresh.false))
    (said_always g.D.Disk.told c.refuse.result store parts c.args.answer.now.items c.refuse.new.answer.items (λ shared. refused_with shared tag WrongState) c.requires.ready c.refuse.ensures)
