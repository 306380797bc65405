use Rattle.mail_world.specs.Worlds.{World}
use Rattle.mail_world.specs.Looking.{mailbox_id}
use Rattle.imap_steps.specs.Stepping.{refused_with}
use Rattle.imap_steps.specs.Appending.{append, appended_if}
use Rattle.imap_exec.proofs.Placing.{when_fit, when_unfit}
use Rattle.imap_exec.proofs.Saying.{executed_as, said_always}
use Rattle.imap_exec.proofs.append.append_as.Goals as goal

pub returns-in-Some : goal.returns-in-Some
returns-in-Some g c parts ready =
    let store = c.args.store.now in
    let tag = c.args.tag.now in
    let name = c.args.name.now in
    let flags = c.args.flags.now in
    let date = c.args.stamp.now in
    let text = c.args.text.now in
    let now = c.args.now in
    let user = c.args.user in
    let refusal = c.in-Some.refusal in
    executed_as g.D.Disk.told c.refuse.result store store parts parts c.args.answer.now.items c.refuse.new.answer.items
    (λ shared. refused_with shared tag refusal) (λ shared. append shared user tag name flags date text now)
    (λ (world : World). when_unfit (record { world = world; parts = parts }) user tag name flags date text now refusal c.in-Some.ensures)
    (said_always g.D.Disk.told c.refuse.result store parts c.args.answer.now.items c.refuse.new.answer.items (λ shared. refused_with shared tag refusal) ready c.refuse.ensures)

pub returns-in-None : goal.returns-in-None
returns-in-None g c parts ready =
    let store = c.args.store.now in
    let tag = c.args.tag.now in
    let name = c.args.name.now in
    let flags = c.args.flags.now in
    let date = c.args.stamp.now in
    let text = c.args.text.now in
    let now = c.args.now in
    let user = c.args.user in
    executed_as g.D.Disk.told c.append_fit.result store c.append_fit.new.store parts parts c.args.answer.now.items c.append_fit.new.answer.items
    (λ shared. appended_if shared tag flags date text now (mailbox_id user name shared.world.mailboxes)) (λ shared. append shared user tag name flags date text now)
    (λ (world : World). when_fit (record { world = world; parts = parts }) user tag name flags date text now c.in-None.ensures)
    (c.append_fit.ensures parts ready)
