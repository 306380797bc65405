use Rattle.std.proofs.Common.{◌++◌, ℕ, [], map, Option, codes, sym, ap, subst, ◌∙◌}
use Rattle.std.specs.List.{list_any}
use Rattle.imap_writer.specs.declared.refusals.Refusal.TheVariants.{Absent}
use Rattle.imap_writer.specs.Statuses.{status_line}
use Rattle.imap_writer.specs.Tagged.{ok_line}
use Rattle.mail_world.specs.Names.{mailbox_name}
use Rattle.mail_world.specs.Worlds.{Mailbox, mailbox_named, no_world}
use Rattle.mailbox_core.specs.Statuses.{IsStatus}
use Rattle.imap_steps.specs.Stepping.{Shared, answered, refused_with}
use Rattle.imap_steps.specs.Status.{status, status_of}
use Rattle.imap_exec.specs.Numbers.{counts_unseen, data_in}
use Rattle.imap_exec.proofs.Choosing.{none_so}
use Rattle.imap_exec.proofs.Numbered.{status_step}
use Rattle.imap_exec.proofs.Saying.{said, said_as}
use Rattle.imap_exec.proofs.Selected.{is_found}
use Rattle.imap_exec.proofs.status.status_for.Goals as goal

pub returns-in-Some : goal.returns-in-Some
returns-in-Some g c parts ready =
    let store = c.args.store.now in
    let user : ℕ = c.args.user in
    let tag = c.args.tag.now in
    let name = c.args.name.now in
    let items = c.args.items.now in
    let its = c.status-its.result in
    let call = c.tell_status in
    said g.D.Disk.told call.result store parts parts c.args.answer.now.items call.new.answer.items (λ shared. status shared user tag name items) ready (λ ok. ready.live)
    (call.ensures (record { world = no_world; parts = parts })).memory
    (λ world stands. let shared : Shared = record { world = world; parts = parts } in
    let found = is_found world user c.in-Some.mailbox name stands.legal (sym c.in-Some.is ∙ c.find.ensures.world world stands) in
    let is : IsStatus (list_any counts_unseen items) its found.m = subst (λ b. IsStatus b its found.m) c.asks_unseen.ensures (c.status-its.ensures world stands found.m found.at) in
    said_as call.result parts c.args.answer.now.items call.new.answer.items
    (answered shared (status_line (mailbox_name name) (map (data_in its) items) ++ ok_line tag [] (codes "STATUS"))) (status shared user tag name items)
    (status_step shared user tag name items its found.m found.named is) (call.ensures shared))

pub returns-in-None : goal.returns-in-None
unfolding status
returns-in-None g c parts ready =
    let store = c.args.store.now in
    let user : ℕ = c.args.user in
    let tag = c.args.tag.now in
    let name = c.args.name.now in
    let items = c.args.items.now in
    said g.D.Disk.told c.refuse.result store parts parts c.args.answer.now.items c.refuse.new.answer.items (λ shared. status shared user tag name items) ready (λ ok. ready.live)
    (c.refuse.ensures (record { world = no_world; parts = parts })).memory
    (λ world stands. let shared : Shared = record { world = world; parts = parts } in
    let named = mailbox_named user (mailbox_name name) world.mailboxes in
    said_as c.refuse.result parts c.args.answer.now.items c.refuse.new.answer.items (refused_with shared tag Absent) (status_of shared tag name items named)
    (ap (λ (o : Option Mailbox). status_of shared tag name items o) (none_so (λ mailbox. mailbox.head.id) named (sym c.in-None.is ∙ c.find.ensures.world world stands)))
    (c.refuse.ensures shared))
