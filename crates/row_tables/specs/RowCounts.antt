-- How many rows a user or a mailbox has.
use Rattle.std.specs.Prelude.{ℕ, ◌==◌, List}
use Rattle.std.specs.List.{count_by}
use Rattle.row_tables.specs.declared.heads.Mailbox.{Mailbox}
use Rattle.row_tables.specs.declared.heads.Subscription.{Subscription}
use Rattle.row_tables.specs.declared.marks.MailboxMessage.{MailboxMessage}

-- the mailboxes of a user
abbrev pub mailbox_count : ℕ → List Mailbox → ℕ
mailbox_count owner rows = count_by (λ r. r.owner == owner) rows

-- the subscriptions of a user
abbrev pub subscription_count : ℕ → List Subscription → ℕ
subscription_count owner rows = count_by (λ r. r.owner == owner) rows

-- the messages of a mailbox
abbrev pub entry_count : ℕ → List MailboxMessage → ℕ
entry_count mailbox rows = count_by (λ r. r.mailbox == mailbox) rows
