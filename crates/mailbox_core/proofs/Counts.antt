-- Rows as they are counted, which are as many as those that are listed.
use Rattle.std.proofs.Common.{◌≡◌, ℕ, ◌+◌, ◌==◌, nat_le, nat_lt, List, length, filter, sym, ap, ◌∙◌, arith}
use Rattle.std.proofs.lemmas.List.{length-map}
use Rattle.std.proofs.lemmas.List.Sums.{length-filter}
use Rattle.row_tables.specs.TableRows.{TableRows}
use Rattle.row_tables.specs.RowCounts.{entry_count, mailbox_count, subscription_count}
use Rattle.row_tables.specs.References.{subscriptions_of}
use Rattle.row_tables.specs.declared.heads.Mailbox.{Mailbox}
use Rattle.row_tables.specs.declared.heads.Subscription.{Subscription}
use Rattle.row_tables.specs.declared.marks.MailboxMessage.{MailboxMessage}
use Rattle.mail_stands.specs.Arriving.{message_count}
use Rattle.mail_stands.specs.Refusals.{mailboxes_of}

-- of a user
pub mailboxes_counted : (owner : ℕ) (rows : List Mailbox) → mailbox_count owner rows ≡ length (mailboxes_of owner rows)
mailboxes_counted owner rows = sym (length-filter (λ (r : Mailbox). r.owner == owner) rows)

pub subscriptions_counted : (owner : ℕ) (rows : List Subscription) → subscription_count owner rows ≡ length (subscriptions_of owner rows)
subscriptions_counted owner rows = sym (length-filter (λ (r : Subscription). r.owner == owner) rows)

-- of a mailbox
pub entries_counted : (t : TableRows) (id : ℕ) → entry_count id t.marks.mailbox_messages ≡ message_count t id
entries_counted t id =
    let of_mailbox : MailboxMessage → _ = λ (r : MailboxMessage). r.mailbox == id in
    sym (length-map (filter of_mailbox t.marks.mailbox_messages) (λ (r : MailboxMessage). r.uid) ∙ length-filter of_mailbox t.marks.mailbox_messages)

one_more : (most count : ℕ) → nat_le most count ≡ nat_lt most (count + 1)
one_more most count = grind arith

-- whether one more is too many
pub entries_most : (most : ℕ) (t : TableRows) (id : ℕ) → nat_le most (entry_count id t.marks.mailbox_messages) ≡ nat_lt most (message_count t id + 1)
entries_most most t id = one_more most (entry_count id t.marks.mailbox_messages) ∙ ap (λ (n : ℕ). nat_lt most (n + 1)) (entries_counted t id)
