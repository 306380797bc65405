use Rattle.std.proofs.Common.{◌≡◌, Option, Some, None, MatchOption, refl, ap}
use Rattle.std.specs.Bool.{⊤}
use Rattle.ordered_rows.specs.RowKey.{RowKey}
use Rattle.ordered_rows.specs.Listed.{row_at}
use Rattle.row_tables.specs.Keys.{mailbox_message_key}
use Rattle.row_tables.specs.declared.marks.MailboxMessage.{MailboxMessage}
use Rattle.row_tables.proofs.NameChanges.{has_its_key}
use Rattle.row_tables.proofs.mark_tables.MarkTables.replace_mailbox_message.Goals as goal

pub replace-requires : goal.replace-requires
replace-requires c = by (row_at mailbox_message_key (mailbox_message_key c.args.row) c.self.inside.mailbox_messages) refl
  where
    by : (o : Option MailboxMessage) → row_at mailbox_message_key (mailbox_message_key c.args.row) c.self.inside.mailbox_messages ≡ o → MatchOption o ⊤ (λ old. old.mailbox ≡ c.args.row.mailbox)
    by None e = tt
    by (Some old) e = ap (λ (k : RowKey). k.number) (has_its_key mailbox_message_key c.keys.ensures.same (mailbox_message_key c.args.row) c.self.inside.mailbox_messages old e)
