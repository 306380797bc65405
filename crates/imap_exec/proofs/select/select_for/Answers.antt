use Rattle.std.proofs.Common.{ℕ, List, Option, None, sym, ap, subst, ◌∙◌}
use Rattle.imap_writer.specs.Tagged.{no_line}
use Rattle.imap_writer.specs.declared.refusals.Refusal.TheVariants.{Absent}
use Rattle.session_view.specs.declared.sessions.SessionPart.{SessionPart}
use Rattle.session_view.specs.declared.sessions.State.TheVariants.{Known}
use Rattle.mail_world.specs.Names.{mailbox_name}
use Rattle.mail_world.specs.Worlds.{Mailbox, World, mailbox_named, no_world}
use Rattle.mail_world.specs.Looking.{mailbox_id}
use Rattle.imap_steps.specs.Stepping.{Shared}
use Rattle.imap_steps.specs.Selecting.{select, selected_if}
use Rattle.imap_exec.specs.Ready.{AreLive}
use Rattle.imap_exec.proofs.Living.{live_with}
use Rattle.imap_exec.proofs.Choosing.{none_so}
use Rattle.imap_exec.proofs.Saying.{said, said_as, turned_as}
use Rattle.imap_exec.proofs.select.select_for.Goals as goal

pub open-requires-clause-found : goal.open-requires-clause-found
open-requires-clause-found g c w stands =
    sym c.in-Some.is ∙ (c.find.ensures.world w stands ∙ ap (λ (n : List ℕ). mailbox_id c.args.user n w.mailboxes) c.as_slice.ensures)

pub returns-in-None : goal.returns-in-None
unfolding select
returns-in-None g c =
    let store = c.args.store.now in
    let parts = c.args.sessions.now in
    let number = c.args.number in
    let user = c.args.user in
    let tag = c.args.tag.now in
    let name = c.args.name.now in
    let turned : (world : World) → _ = λ world. let shared : Shared = record { world = world; parts = parts } in
    turned_as c.refuse.result c.args.answer.now.items c.refuse.new.answer.items shared shared number (Known user) (no_line tag Absent) c.set_state.new.self c.set_state.ensures (c.refuse.ensures shared) in
    said g.D.Disk.told c.refuse.result store parts c.set_state.new.self c.args.answer.now.items c.refuse.new.answer.items (λ shared. select shared number user tag name c.args.read_write) c.requires.ready
    (λ ok. subst (λ (ps : List SessionPart). AreLive store.tables ps) (sym c.set_state.ensures) (live_with store.tables number (Known user) parts c.requires.user c.requires.ready.live))
    (turned no_world).memory
    (λ world stands. let shared : Shared = record { world = world; parts = parts } in
    let named = mailbox_named user (mailbox_name name) world.mailboxes in
    said_as c.refuse.result c.set_state.new.self c.args.answer.now.items c.refuse.new.answer.items (selected_if shared number user tag c.args.read_write None) (selected_if shared number user tag c.args.read_write named)
    (ap (λ (o : Option Mailbox). selected_if shared number user tag c.args.read_write o)
    (none_so (λ mailbox. mailbox.head.id) named (sym c.in-None.is ∙ (c.find.ensures.world world stands ∙ ap (λ (n : List ℕ). mailbox_id user n world.mailboxes) c.as_slice.ensures)))) (turned world))
