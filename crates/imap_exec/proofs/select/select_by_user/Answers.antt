use Rattle.std.proofs.Common.{sym, ◌∙◌}
use Rattle.imap_writer.specs.declared.refusals.Refusal.TheVariants.{State as WrongState}
use Rattle.session_view.specs.Parts.{state_of}
use Rattle.mail_world.specs.Worlds.{World}
use Rattle.imap_steps.specs.Stepping.{Shared, refused_with}
use Rattle.imap_steps.specs.Selecting.{select}
use Rattle.imap_steps.specs.Executing.{of_user}
use Rattle.imap_exec.proofs.Living.{user_is_there}
use Rattle.imap_exec.proofs.Guarding.{when_user, unless_user}
use Rattle.imap_exec.proofs.Saying.{executed_as, said_always}
use Rattle.imap_exec.proofs.select.select_by_user.Goals as goal

pub select_for-requires-clause-user : goal.select_for-requires-clause-user
select_for-requires-clause-user g c =
    user_is_there c.args.store.now.tables c.args.number c.in-Some.user c.args.sessions.now (sym c.user_of.ensures ∙ c.in-Some.is) c.requires.ready.live

pub returns-in-Some : goal.returns-in-Some
returns-in-Some g c =
    let parts = c.args.sessions.now in
    let number = c.args.number in
    let tag = c.args.tag.now in
    let name = c.args.name.now in
    executed_as g.D.Disk.told c.select_for.result c.args.store.now c.select_for.new.store parts c.select_for.new.sessions c.args.answer.now.items c.select_for.new.answer.items
    (λ shared. select shared number c.in-Some.user tag name c.args.read_write)
    (λ shared. of_user shared tag (state_of number shared.parts) (λ user. select shared number user tag name c.args.read_write))
    (λ (world : World). let shared : Shared = record { world = world; parts = parts } in
    when_user shared tag (state_of number parts) c.in-Some.user (λ user. select shared number user tag name c.args.read_write) (sym c.user_of.ensures ∙ c.in-Some.is))
    c.select_for.ensures

pub returns-in-None : goal.returns-in-None
returns-in-None g c =
    let parts = c.args.sessions.now in
    let number = c.args.number in
    let tag = c.args.tag.now in
    let name = c.args.name.now in
    executed_as g.D.Disk.told c.refuse.result c.args.store.now c.args.store.now parts parts c.args.answer.now.items c.refuse.new.answer.items
    (λ shared. refused_with shared tag WrongState)
    (λ shared. of_user shared tag (state_of number shared.parts) (λ user. select shared number user tag name c.args.read_write))
    (λ (world : World). let shared : Shared = record { world = world; parts = parts } in
    unless_user shared tag (state_of number parts) (λ user. select shared number user tag name c.args.read_write) (sym c.user_of.ensures ∙ c.in-None.is))
    (said_always g.D.Disk.told c.refuse.result c.args.store.now parts c.args.answer.now.items c.refuse.new.answer.items (λ shared. refused_with shared tag WrongState) c.requires.ready c.refuse.ensures)
