use Rattle.std.proofs.Common.{◌≡◌, ℕ, List, ap, ◌∙◌, rules}
use Rattle.row_tables.specs.InTurn.{flag_insertions}
use Rattle.row_tables.specs.declared.heads.Mailbox.{Mailbox}
use Rattle.row_tables.specs.declared.marks.MailboxMessage.{MailboxMessage}
use Rattle.row_tables.specs.declared.change.RowChange.TheVariants.{InsertMailboxMessage, UpdateMailbox}
use Rattle.mail_stands.specs.Arriving.{arrival_row, with_arrival}
use Rattle.mailbox_core.proofs.Arrived.{gathered}
use Rattle.mailbox_core.proofs.arrivals.arrival_changes.Goals as goal

pub returns : goal.returns
returns c =
    let row : Mailbox = c.args.arrival.row in
    let entry : c.arrival_row.result ≡ arrival_row row c.args.message c.args.stamp = search rules in
    gathered c.args.rows.items c.args.arrival.names.items (flag_insertions row.id row.uidnext c.args.arrival.ids.items) c.in_ok-flags.flags.items
    c.append.new.self.items c.push.new.self.items c.append-2.new.self.items c.push-2.new.self.items
    (InsertMailboxMessage (arrival_row row c.args.message c.args.stamp)) (UpdateMailbox (with_arrival c.args.taken row)) (InsertMailboxMessage c.arrival_row.result) (UpdateMailbox c.with_arrival.result)
    c.in_ok-append.ensures.items c.in_ok-push.ensures.items c.in_ok-append-2.ensures.items c.in_ok-push-2.ensures.items
    (ap (λ (m : MailboxMessage). InsertMailboxMessage m) entry)
    (c.in_ok-flags.ensures ∙ ap (λ (ids : List ℕ). flag_insertions row.id row.uidnext ids) c.as_slice.ensures.value) (ap (λ (m : Mailbox). UpdateMailbox m) c.with_arrival.ensures)
