use Rattle.std.proofs.Common.{false, codes, subst}
use Rattle.row_store.specs.Holding.{in_row}
use Rattle.mime_tree.specs.declared.reasons.Mail.{Mail}
use Rattle.mime_reader.specs.Wrapping.{mail}
use Rattle.mail_world.specs.Worlds.{World}
use Rattle.mail_world.specs.Changes.{Append}
use Rattle.mail_stands.specs.Stands.{Stands}
use Rattle.mailbox_core.specs.Calls.{Makes}
use Rattle.mailbox_core.specs.Messages.{next_uid}
use Rattle.imap_steps.specs.Stepping.{made}
use Rattle.imap_exec.proofs.Making.{executes_change}
use Rattle.imap_exec.proofs.Saying.{starves}
use Rattle.imap_exec.proofs.append.append_to.Goals as goal

pub returns-in-Ok : goal.returns-in-Ok
returns-in-Ok g c parts ready =
    let store = c.args.store.now in
    let flags = c.args.flags.now in
    let mailbox = c.args.mailbox in
    executes_change g.D.Disk.told c.append-made.result c.tell_made.result store c.append-made.new.store parts c.args.answer.now.items c.tell_made.new.answer.items c.args.tag.now (codes "APPEND") c.tell_made.ensures
    c.append-made.ensures.behaves ready (λ world. Append mailbox flags c.args.stamp (mail c.args.text.now c.args.now) false) (λ world. next_uid world mailbox)
    (subst (λ (its : Mail). (world : World) → Stands in_row store.tables world → Makes g.D.Disk.told c.append-made.result store c.append-made.new.store world (Append mailbox flags c.args.stamp its false) (next_uid world mailbox)) c.in-Ok.ensures c.append-made.ensures.makes)

pub returns-in-Err : goal.returns-in-Err
returns-in-Err g c parts ready =
    starves g.D.Disk.told c.args.store.now parts parts c.args.answer.now.items c.args.answer.now.items
    (λ shared. made shared (Append c.args.mailbox c.args.flags.now c.args.stamp (mail c.args.text.now c.args.now) false) c.args.tag.now (codes "APPEND"))
