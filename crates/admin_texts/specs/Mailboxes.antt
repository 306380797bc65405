-- The lines of the messages of one mailbox. Serves private functions alone.
use Rattle.std.specs.Prelude.{ℕ, List, [], flat_map, Option, Some, None}
use Rattle.ordered_rows.specs.Listed.{row_at}
use Rattle.row_tables.specs.Keys.{uid_key, mailbox_message_key}
use Rattle.row_tables.specs.References.{uids_of}
use Rattle.row_tables.specs.declared.marks.MailboxMessage.{MailboxMessage}
use Rattle.admin_texts.specs.Listing.{mailbox_message_line}

abbrev pub line_if_any : Option MailboxMessage → List ℕ
line_if_any None = []
line_if_any (Some row) = mailbox_message_line row

-- of the message with a UID, where there is one, and of all
abbrev pub lines_at : List MailboxMessage → ℕ → ℕ → List ℕ
lines_at rows mailbox uid = line_if_any (row_at mailbox_message_key (uid_key mailbox uid) rows)

abbrev pub lines_of : List MailboxMessage → ℕ → List ℕ
lines_of rows mailbox = flat_map (lines_at rows mailbox) (uids_of mailbox rows)
