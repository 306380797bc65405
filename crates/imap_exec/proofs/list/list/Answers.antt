use Rattle.std.proofs.Common.{sym, ◌∙◌}
use Rattle.imap_writer.specs.declared.refusals.Refusal.TheVariants.{State as WrongState}
use Rattle.session_view.specs.Parts.{state_of}
use Rattle.mail_world.specs.Worlds.{World}
use Rattle.imap_steps.specs.Stepping.{Shared, refused_with}
use Rattle.imap_steps.specs.Listing.{list}
use Rattle.imap_steps.specs.Executing.{of_user}
use Rattle.imap_exec.proofs.Guarding.{when_user, unless_user}
use Rattle.imap_exec.proofs.Saying.{executed_as, said_always}
use Rattle.imap_exec.proofs.list.list.Goals as goal

pub returns-in-Some : goal.returns-in-Some
returns-in-Some g c =
    let store = c.args.store.now in
    let parts = c.args.sessions.now in
    let tag = c.args.tag.now in
    let state = state_of c.args.number parts in
    let user = c.in-Some.user in
    executed_as g.D.Disk.told c.list_for.result store store parts parts c.args.answer.now.items c.list_for.new.answer.items
    (λ shared. list shared user tag c.args.reference.now c.args.name.now c.args.subscribed)
    (λ shared. of_user shared tag (state_of c.args.number shared.parts) (λ user. list shared user tag c.args.reference.now c.args.name.now c.args.subscribed))
    (λ (world : World). let shared : Shared = record { world = world; parts = parts } in
    when_user shared tag state user (λ user. list shared user tag c.args.reference.now c.args.name.now c.args.subscribed) (sym c.user_of.ensures ∙ c.in-Some.is))
    c.list_for.ensures

pub returns-in-None : goal.returns-in-None
returns-in-None g c =
    let store = c.args.store.now in
    let parts = c.args.sessions.now in
    let tag = c.args.tag.now in
    let state = state_of c.args.number parts in
    executed_as g.D.Disk.told c.refuse.result store store parts parts c.args.answer.now.items c.refuse.new.answer.items (λ shared. refused_with shared tag WrongState)
    (λ shared. of_user shared tag (state_of c.args.number shared.parts) (λ user. list shared user tag c.args.reference.now c.args.name.now c.args.subscribed))
    (λ (world : World). let shared : Shared = record { world = world; parts = parts } in
    unless_user shared tag state (λ user. list shared user tag c.args.reference.now c.args.name.now c.args.subscribed) (sym c.user_of.ensures ∙ c.in-None.is))
    (said_always g.D.Disk.told c.refuse.result store parts c.args.answer.now.items c.refuse.new.answer.items (λ shared. refused_with shared tag WrongState) c.requires.ready c.refuse.ensures)
