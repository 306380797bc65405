use Rattle.std.proofs.Common.{◌≡◌, List, true, false, sym, ap, subst, ◌∙◌}
use Rattle.std.specs.List.{list_any}
use Rattle.imap_grammar.specs.declared.items.StatusItem.{StatusItem}
use Rattle.session_view.specs.Parts.{state_of}
use Rattle.mail_world.specs.Worlds.{World}
use Rattle.imap_steps.specs.Stepping.{Shared}
use Rattle.imap_steps.specs.Status.{is_highest, status}
use Rattle.imap_steps.specs.Executing.{of_user, status_plainly, unserved}
use Rattle.imap_exec.specs.Does.{Executes}
use Rattle.imap_exec.proofs.Choosing.{status_served, status_unserved}
use Rattle.imap_exec.proofs.Saying.{executed_as, said_always}
use Rattle.imap_exec.proofs.status.status.Goals as goal

pub returns-then-asks_highest : goal.returns-then-asks_highest
returns-then-asks_highest g c =
    let store = c.args.store.now in
    let parts = c.args.sessions.now in
    let number = c.args.number in
    let tag = c.args.tag.now in
    let name = c.args.name.now in
    let items = c.args.items.now in
    let asks : list_any is_highest items ≡ true = sym (c.asks_highest.ensures ∙ ap (λ (l : List StatusItem). list_any is_highest l) c.as_slice-items.ensures) ∙ c.if-asks_highest.true in
    executed_as g.D.Disk.told c.unserved.result store store parts parts c.args.answer.now.items c.unserved.new.answer.items
    (λ shared. unserved shared tag) (λ shared. status_plainly shared tag (state_of number shared.parts) name items)
    (λ (world : World). let shared : Shared = record { world = world; parts = parts } in status_unserved shared tag (state_of number parts) name items asks)
    (said_always g.D.Disk.told c.unserved.result store parts c.args.answer.now.items c.unserved.new.answer.items (λ shared. unserved shared tag) c.requires.ready c.unserved.ensures)

pub returns-else-asks_highest : goal.returns-else-asks_highest
returns-else-asks_highest g c =
    let store = c.args.store.now in
    let parts = c.args.sessions.now in
    let number = c.args.number in
    let tag = c.args.tag.now in
    let name = c.args.name.now in
    let items = c.args.items.now in
    let call = c.status_by_user in
    let asks : list_any is_highest items ≡ false = sym (c.asks_highest.ensures ∙ ap (λ (l : List StatusItem). list_any is_highest l) c.as_slice-items.ensures) ∙ c.if-asks_highest.false in
    executed_as g.D.Disk.told call.result store store parts parts c.args.answer.now.items call.new.answer.items
    (λ shared. of_user shared tag (state_of number shared.parts) (λ user. status shared user tag name items)) (λ shared. status_plainly shared tag (state_of number shared.parts) name items)
    (λ (world : World). let shared : Shared = record { world = world; parts = parts } in status_served shared tag (state_of number parts) name items asks)
    (subst (λ (l : List StatusItem). Executes g.D.Disk.told call.result store store parts parts c.args.answer.now.items call.new.answer.items (λ shared. of_user shared tag (state_of number shared.parts) (λ user. status shared user tag name l))) c.as_slice-items.ensures call.ensures)
