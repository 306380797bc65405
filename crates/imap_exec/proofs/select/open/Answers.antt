use Rattle.std.proofs.Common.{◌≡◌, Bool, Some, Result, Err, IsOk, rules, refl, sym, ap, subst, ◌∙◌}
use Rattle.row_store.specs.Holding.{in_row}
use Rattle.row_store.specs.declared.faults.StoreFault.{StoreFault}
use Rattle.session_view.specs.declared.sessions.State.{State}
use Rattle.session_view.specs.Parts.{with_state}
use Rattle.mail_world.specs.Worlds.{Mailbox, World, mailbox_at}
use Rattle.mail_stands.specs.Stands.{Stands}
use Rattle.imap_steps.specs.declared.outcome.Outcome.{Outcome}
use Rattle.imap_steps.specs.Stepping.{Shared, Stepped}
use Rattle.imap_steps.specs.Selecting.{select}
use Rattle.imap_exec.specs.Does.{Executes}
use Rattle.imap_exec.specs.Selecting.{Changes, recents_if}
use Rattle.imap_exec.proofs.Saying.{starves}
use Rattle.imap_exec.proofs.Selected.{executes_failed, executes_selected}
use Rattle.imap_exec.proofs.select.open.Goals as goal

pub returns-in_err-its : goal.returns-in_err-its
returns-in_err-its g c =
    let parts = c.args.sessions.now in
    let steps : Shared → Stepped = λ shared. select shared c.args.number c.args.user c.args.tag.now c.args.name.now c.args.read_write in
    let failed : c.from_residual.result ≡ Err StoreFault.NoMemory = search rules in
    subst (λ (r : Result Outcome StoreFault). Executes g.D.Disk.told r c.args.store.now c.args.store.now parts parts c.args.answer.now.items c.tell_selection.new.answer.items steps) (sym failed)
    (starves g.D.Disk.told c.args.store.now c.args.sessions.now c.args.sessions.now c.args.answer.now.items c.tell_selection.new.answer.items steps)

pub returns-in_err-take_recents : goal.returns-in_err-take_recents
returns-in_err-take_recents g c =
    let parts = c.args.sessions.now in
    let steps : Shared → Stepped = λ shared. select shared c.args.number c.args.user c.args.tag.now c.args.name.now c.args.read_write in
    let failed : c.from_residual-in_err-take_recents.result ≡ Err c.in_err-take_recents.field-0.0 = search rules in
    subst (λ (r : Result Outcome StoreFault). Executes g.D.Disk.told r c.args.store.now c.take_recents.new.store parts parts c.args.answer.now.items c.tell_selection.new.answer.items steps) (sym failed)
    (executes_failed g.D.Disk.told c.args.store.now c.take_recents.new.store c.args.sessions.now c.args.answer.now.items c.tell_selection.new.answer.items c.args.number c.args.user c.args.mailbox c.args.tag.now c.args.name.now c.args.read_write c.in_ok-its.its c.take_recents.result c.requires.ready
    c.requires.found c.in_ok-its.ensures
    (subst (λ (b : Bool). (world : World) → Stands in_row c.args.store.now.tables world → (m : Mailbox) → mailbox_at c.args.mailbox world.mailboxes ≡ Some m → Changes g.D.Disk.told c.take_recents.result c.args.store.now c.take_recents.new.store world (recents_if b c.args.mailbox)) c.are_taken-taken.ensures c.take_recents.ensures.changes)
    c.take_recents.ensures.goes_on c.in_err-take_recents.field-0.0 c.in_err-take_recents.was)

pub returns : goal.returns
returns g c =
    executes_selected g.D.Disk.told c.args.store.now c.take_recents.new.store c.args.sessions.now c.args.answer.now.items c.tell_selection.new.answer.items c.args.number c.args.user c.args.mailbox c.args.tag.now c.args.name.now c.args.read_write c.in_ok-its.its c.take_recents.result c.requires.ready
    c.requires.found c.in_ok-its.ensures
    (subst (λ (b : Bool). (world : World) → Stands in_row c.args.store.now.tables world → (m : Mailbox) → mailbox_at c.args.mailbox world.mailboxes ≡ Some m → Changes g.D.Disk.told c.take_recents.result c.args.store.now c.take_recents.new.store world (recents_if b c.args.mailbox)) c.are_taken-taken.ensures c.take_recents.ensures.changes)
    c.take_recents.ensures.goes_on c.set_state.new.self c.requires.user c.requires.owned
    (subst (λ (r : Result (Unit {0}) StoreFault). IsOk r) (sym c.in_ok-take_recents.was) refl)
    (c.set_state.ensures ∙ ap (λ (s : State). with_state c.args.number s c.args.sessions.now) c.selected.ensures)
