use Rattle.std.proofs.Common.{◌≡◌, List, true, false, sym, ap, subst, ◌∙◌}
use Rattle.imap_grammar.specs.declared.items.FetchItem.{FetchItem}
use Rattle.session_view.specs.Parts.{state_of}
use Rattle.mail_world.specs.Worlds.{World}
use Rattle.imap_steps.specs.Stepping.{Shared}
use Rattle.imap_steps.specs.Fetching.{fetch}
use Rattle.imap_steps.specs.Executing.{fetch_plainly, is_plain_fetch, of_selection, unserved}
use Rattle.imap_exec.specs.Does.{Executes}
use Rattle.imap_exec.proofs.Choosing.{fetch_served, fetch_unserved}
use Rattle.imap_exec.proofs.Saying.{executed_as, said_always}
use Rattle.imap_exec.proofs.fetch.fetch.Goals as goal

pub returns-then-is_plain : goal.returns-then-is_plain
returns-then-is_plain g c =
    let store = c.args.store.now in
    let parts = c.args.sessions.now in
    let number = c.args.number in
    let tag = c.args.tag.now in
    let by_uid = c.args.by_uid in
    let ranges = c.args.set.now.ranges in
    let items = c.args.items.now in
    let since = c.args.changed_since in
    let vanished = c.args.vanished in
    let call = c.fetch_selected in
    let plain : is_plain_fetch items since vanished ≡ true = sym (c.is_plain.ensures ∙ ap (λ (l : List FetchItem). is_plain_fetch l since vanished) c.as_slice-items.ensures) ∙ c.if-is_plain.true in
    executed_as g.D.Disk.told call.result store call.new.store parts parts c.args.answer.now.items call.new.answer.items
    (λ shared. of_selection shared tag (state_of number shared.parts) (λ selection. fetch shared tag selection by_uid ranges items)) (λ shared. fetch_plainly shared tag (state_of number shared.parts) by_uid ranges items since vanished)
    (λ (world : World). let shared : Shared = record { world = world; parts = parts } in fetch_served shared tag (state_of number parts) by_uid ranges items since vanished plain)
    (subst (λ (l : List FetchItem). Executes g.D.Disk.told call.result store call.new.store parts parts c.args.answer.now.items call.new.answer.items (λ shared. of_selection shared tag (state_of number shared.parts) (λ selection. fetch shared tag selection by_uid ranges l))) c.as_slice-items.ensures call.ensures)

pub returns-else-is_plain : goal.returns-else-is_plain
returns-else-is_plain g c =
    let store = c.args.store.now in
    let parts = c.args.sessions.now in
    let number = c.args.number in
    let tag = c.args.tag.now in
    let by_uid = c.args.by_uid in
    let ranges = c.args.set.now.ranges in
    let items = c.args.items.now in
    let since = c.args.changed_since in
    let vanished = c.args.vanished in
    let plain : is_plain_fetch items since vanished ≡ false = sym (c.is_plain.ensures ∙ ap (λ (l : List FetchItem). is_plain_fetch l since vanished) c.as_slice-items.ensures) ∙ c.if-is_plain.false in
    executed_as g.D.Disk.told c.unserved.result store store parts parts c.args.answer.now.items c.unserved.new.answer.items
    (λ shared. unserved shared tag) (λ shared. fetch_plainly shared tag (state_of number shared.parts) by_uid ranges items since vanished)
    (λ (world : World). let shared : Shared = record { world = world; parts = parts } in fetch_unserved shared tag (state_of number parts) by_uid ranges items since vanished plain)
    (said_always g.D.Disk.told c.unserved.result store parts c.args.answer.now.items c.unserved.new.answer.items (λ shared. unserved shared tag) c.requires.ready c.unserved.ensures)
