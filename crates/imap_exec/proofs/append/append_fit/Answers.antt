use Rattle.std.proofs.Common.{false, codes, sym, subst}
use Rattle.row_store.specs.Holding.{in_row}
use Rattle.date_grammar.specs.Stamps.{HasPrint}
use Rattle.imap_writer.specs.declared.refusals.Refusal.TheVariants.{TryCreate}
use Rattle.mime_reader.specs.Wrapping.{mail}
use Rattle.mail_world.specs.Worlds.{World}
use Rattle.mail_world.specs.Changes.{Append}
use Rattle.mail_world.specs.Looking.{mailbox_id}
use Rattle.mail_stands.specs.Stands.{Stands}
use Rattle.imap_steps.specs.Stepping.{made, refused_with}
use Rattle.imap_steps.specs.Appending.{appended_if}
use Rattle.imap_exec.proofs.Fitting.{date_has_print, fits_literal, flags_are_proper}
use Rattle.imap_exec.proofs.Placing.{executed_where, unless_found, when_found}
use Rattle.imap_exec.proofs.Saying.{said_always}
use Rattle.imap_exec.proofs.append.append_fit.Goals as goal

pub append_to-requires-clause-flags : goal.append_to-requires-clause-flags
append_to-requires-clause-flags g c = flags_are_proper c.args.flags.now c.args.stamp.now c.args.text.now c.requires.fit

pub append_to-requires-clause-date : goal.append_to-requires-clause-date
append_to-requires-clause-date g c = subst HasPrint (sym c.date_or-stamp.ensures) (date_has_print c.args.flags.now c.args.stamp.now c.args.text.now c.requires.fit c.args.now)

pub append_to-requires-clause-text : goal.append_to-requires-clause-text
append_to-requires-clause-text g c = fits_literal c.args.flags.now c.args.stamp.now c.args.text.now c.requires.fit

pub returns-in-Some : goal.returns-in-Some
returns-in-Some g c parts ready =
    let store = c.args.store.now in
    let tag = c.args.tag.now in
    let flags = c.args.flags.now in
    let date = c.args.stamp.now in
    let text = c.args.text.now in
    let now = c.args.now in
    executed_where g.D.Disk.told c.append_to.result store c.append_to.new.store parts parts c.args.answer.now.items c.append_to.new.answer.items
    (λ shared. made shared (Append c.in-Some.mailbox flags c.date_or-stamp.result (mail text now) false) tag (codes "APPEND"))
    (λ shared. appended_if shared tag flags date text now (mailbox_id c.args.user c.args.name.now shared.world.mailboxes))
    (λ (world : World) (stands : Stands in_row store.tables world). when_found (record { world = world; parts = parts }) tag flags date text now (mailbox_id c.args.user c.args.name.now world.mailboxes) c.in-Some.mailbox c.date_or-stamp.result (c.in-Some.ensures.world world stands) c.date_or-stamp.ensures)
    (c.append_to.ensures parts ready)

pub returns-in-None : goal.returns-in-None
returns-in-None g c parts ready =
    let store = c.args.store.now in
    let tag = c.args.tag.now in
    let flags = c.args.flags.now in
    let date = c.args.stamp.now in
    let text = c.args.text.now in
    let now = c.args.now in
    executed_where g.D.Disk.told c.refuse.result store store parts parts c.args.answer.now.items c.refuse.new.answer.items
    (λ shared. refused_with shared tag TryCreate)
    (λ shared. appended_if shared tag flags date text now (mailbox_id c.args.user c.args.name.now shared.world.mailboxes))
    (λ (world : World) (stands : Stands in_row store.tables world). unless_found (record { world = world; parts = parts }) tag flags date text now (mailbox_id c.args.user c.args.name.now world.mailboxes) (c.in-None.ensures.world world stands))
    (said_always g.D.Disk.told c.refuse.result store parts c.args.answer.now.items c.refuse.new.answer.items (λ shared. refused_with shared tag TryCreate) ready c.refuse.ensures)
