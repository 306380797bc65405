use Rattle.std.proofs.Common.{sym}
use Rattle.imap_writer.specs.declared.refusals.Refusal.TheVariants.{State as WrongState}
use Rattle.session_view.specs.Parts.{state_of}
use Rattle.mail_world.specs.Worlds.{World}
use Rattle.imap_steps.specs.Stepping.{Shared, refused_with}
use Rattle.imap_steps.specs.Fetching.{fetch}
use Rattle.imap_steps.specs.Executing.{of_selection}
use Rattle.imap_exec.proofs.Living.{selection_is_there}
use Rattle.imap_exec.proofs.Guarding.{when_selection, unless_selection}
use Rattle.imap_exec.proofs.Saying.{executed_as, said_always}
use Rattle.imap_exec.proofs.fetch.fetch_selected.Goals as goal

pub fetch_from-requires-clause-there : goal.fetch_from-requires-clause-there
fetch_from-requires-clause-there g c =
    selection_is_there c.args.store.now.tables c.args.number c.in-Some.selection.now c.args.sessions.now (sym c.in-Some.ensures) c.requires.ready.live

pub returns-in-Some : goal.returns-in-Some
returns-in-Some g c =
    let parts = c.args.sessions.now in
    let tag = c.args.tag.now in
    let chosen = c.in-Some.selection.now in
    executed_as g.D.Disk.told c.fetch_from.result c.args.store.now c.fetch_from.new.store parts parts c.args.answer.now.items c.fetch_from.new.answer.items
    (λ shared. fetch shared tag chosen c.args.by_uid c.args.set.now.ranges c.args.items.now)
    (λ shared. of_selection shared tag (state_of c.args.number shared.parts) (λ selection. fetch shared tag selection c.args.by_uid c.args.set.now.ranges c.args.items.now))
    (λ (world : World). let shared : Shared = record { world = world; parts = parts } in
    when_selection shared tag (state_of c.args.number parts) chosen (λ selection. fetch shared tag selection c.args.by_uid c.args.set.now.ranges c.args.items.now) (sym c.in-Some.ensures))
    (c.fetch_from.ensures parts c.requires.ready)

pub returns-in-None : goal.returns-in-None
returns-in-None g c =
    let parts = c.args.sessions.now in
    let tag = c.args.tag.now in
    executed_as g.D.Disk.told c.refuse.result c.args.store.now c.args.store.now parts parts c.args.answer.now.items c.refuse.new.answer.items
    (λ shared. refused_with shared tag WrongState)
    (λ shared. of_selection shared tag (state_of c.args.number shared.parts) (λ selection. fetch shared tag selection c.args.by_uid c.args.set.now.ranges c.args.items.now))
    (λ (world : World). let shared : Shared = record { world = world; parts = parts } in
    unless_selection shared tag (state_of c.args.number parts) (λ selection. fetch shared tag selection c.args.by_uid c.args.set.now.ranges c.args.items.now) (sym c.in-None.ensures))
    (said_always g.D.Disk.told c.refuse.result c.args.store.now parts c.args.answer.now.items c.refuse.new.answer.items (λ shared. refused_with shared tag WrongState) c.requires.ready c.refuse.ensures)
