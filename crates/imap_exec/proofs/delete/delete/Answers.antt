use Rattle.std.proofs.Common.{ℕ, List, sym, subst, ◌∙◌}
use Rattle.imap_writer.specs.declared.refusals.Refusal.TheVariants.{State as WrongState}
use Rattle.session_view.specs.Parts.{state_of}
use Rattle.mail_world.specs.Worlds.{World}
use Rattle.imap_steps.specs.Stepping.{Shared, refused_with}
use Rattle.imap_steps.specs.Managing.{delete}
use Rattle.imap_steps.specs.Executing.{of_user}
use Rattle.imap_exec.specs.Does.{Executes}
use Rattle.imap_exec.proofs.Guarding.{when_user, unless_user}
use Rattle.imap_exec.proofs.Saying.{executed_as, said_always}
use Rattle.imap_exec.proofs.delete.delete.Goals as goal

pub returns-in-Some : goal.returns-in-Some
returns-in-Some g c =
    let store = c.args.store.now in
    let parts = c.args.sessions.now in
    let tag = c.args.tag.now in
    let name = c.args.name.now in
    let user = c.in-Some.user in
    let call = c.delete_as in
    executed_as g.D.Disk.told call.result store call.new.store parts parts c.args.answer.now.items call.new.answer.items
    (λ shared. delete shared user tag name) (λ shared. of_user shared tag (state_of c.args.number shared.parts) (λ user. delete shared user tag name))
    (λ (world : World). let shared : Shared = record { world = world; parts = parts } in when_user shared tag (state_of c.args.number parts) user (λ user. delete shared user tag name) (sym c.user_of.ensures ∙ c.in-Some.is))
    (subst (λ (n : List ℕ). Executes g.D.Disk.told call.result store call.new.store parts parts c.args.answer.now.items call.new.answer.items (λ shared. delete shared user tag n)) c.as_slice.ensures call.ensures)

pub returns-in-None : goal.returns-in-None
returns-in-None g c =
    let store = c.args.store.now in
    let parts = c.args.sessions.now in
    let tag = c.args.tag.now in
    let name = c.args.name.now in
    executed_as g.D.Disk.told c.refuse.result store store parts parts c.args.answer.now.items c.refuse.new.answer.items
    (λ shared. refused_with shared tag WrongState) (λ shared. of_user shared tag (state_of c.args.number shared.parts) (λ user. delete shared user tag name))
    (λ (world : World). let shared : Shared = record { world = world; parts = parts } in unless_user shared tag (state_of c.args.number parts) (λ user. delete shared user tag name) (sym c.user_of.ensures ∙ c.in-None.is))
    (said_always g.D.Disk.told c.refuse.result store parts c.args.answer.now.items c.refuse.new.answer.items (λ shared. refused_with shared tag WrongState) c.requires.ready c.refuse.ensures)
