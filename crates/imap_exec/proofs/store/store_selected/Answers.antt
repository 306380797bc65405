use Rattle.std.proofs.Common.{sym}
use Rattle.imap_writer.specs.declared.refusals.Refusal.TheVariants.{State as WrongState}
use Rattle.session_view.specs.Parts.{state_of}
use Rattle.mail_world.specs.Worlds.{World}
use Rattle.imap_steps.specs.Stepping.{Shared, refused_with}
use Rattle.imap_steps.specs.Storing.{store}
use Rattle.imap_steps.specs.Executing.{of_selection}
use Rattle.imap_exec.proofs.Living.{selection_is_there}
use Rattle.imap_exec.proofs.Guarding.{when_selection, unless_selection}
use Rattle.imap_exec.proofs.Saying.{executed_as, said_always}
use Rattle.imap_exec.proofs.store.store_selected.Goals as goal

pub store_fit-requires-clause-there : goal.store_fit-requires-clause-there
store_fit-requires-clause-there g c =
    selection_is_there c.args.store.now.tables c.args.number c.in-Some.selection.now c.args.sessions.now (sym c.in-Some.ensures) c.requires.ready.live

pub returns-in-Some : goal.returns-in-Some
returns-in-Some g c =
    let parts = c.args.sessions.now in
    let tag = c.args.tag.now in
    let chosen = c.in-Some.selection.now in
    executed_as g.D.Disk.told c.store_fit.result c.args.store.now c.store_fit.new.store parts parts c.args.answer.now.items c.store_fit.new.answer.items
    (λ shared. store shared tag chosen c.args.by_uid c.args.set.now.ranges c.args.how c.args.silent c.args.flags.now)
    (λ shared. of_selection shared tag (state_of c.args.number shared.parts) (λ selection. store shared tag selection c.args.by_uid c.args.set.now.ranges c.args.how c.args.silent c.args.flags.now))
    (λ (world : World). let shared : Shared = record { world = world; parts = parts } in
    when_selection shared tag (state_of c.args.number parts) chosen (λ selection. store shared tag selection c.args.by_uid c.args.set.now.ranges c.args.how c.args.silent c.args.flags.now) (sym c.in-Some.ensures))
    (c.store_fit.ensures parts c.requires.ready)

pub returns-in-None : goal.returns-in-None
returns-in-None g c =
    let parts = c.args.sessions.now in
    let tag = c.args.tag.now in
    executed_as g.D.Disk.told c.refuse.result c.args.store.now c.args.store.now parts parts c.args.answer.now.items c.refuse.new.answer.items
    (λ shared. refused_with shared tag WrongState)
    (λ shared. of_selection shared tag (state_of c.args.number shared.parts) (λ selection. store shared tag selection c.args.by_uid c.args.set.now.ranges c.args.how c.args.silent c.args.flags.now))
    (λ (world : World). let shared : Shared = record { world = world; parts = parts } in
    unless_selection shared tag (state_of c.args.number parts) (λ selection. store shared tag selection c.args.by_uid c.args.set.now.ranges c.args.how c.args.silent c.args.flags.now) (sym c.in-None.ensures))
    (said_always g.D.Disk.told c.refuse.result c.args.store.now parts c.args.answer.now.items c.refuse.new.answer.items (λ shared. refused_with shared tag WrongState) c.requires.ready c.refuse.ensures)
