-- These serve the contracts of private functions alone.
use Rattle.std.specs.Prelude.{ℕ, List, [], ◌∷◌, ◌++◌, map, Option, Some, None}
use Rattle.ordered_rows.specs.Listed.{row_at}
use Rattle.row_tables.specs.Keys.{uid_key, mailbox_message_key}
use Rattle.row_tables.specs.declared.heads.Mailbox.{Mailbox}
use Rattle.row_tables.specs.declared.marks.MailboxMessage.{MailboxMessage}
use Rattle.row_tables.specs.declared.marks.FlagRow.{FlagRow}
use Rattle.row_tables.specs.declared.change.RowChange.{RowChange}
use Rattle.row_tables.specs.declared.change.RowChange.TheVariants.{InsertMailbox, UpdateCounters}

-- the row that is found, if there is one
abbrev pub row_in : Option MailboxMessage → List MailboxMessage
row_in None = []
row_in (Some row) = row ∷ []

-- the rows that are found at UIDs of a mailbox
abbrev pub rows_after : ℕ → List MailboxMessage → List ℕ → List MailboxMessage
rows_after mailbox rows [] = []
rows_after mailbox rows (uid ∷ uids) = row_in (row_at mailbox_message_key (uid_key mailbox uid) rows) ++ rows_after mailbox rows uids

abbrev pub uids_in : List MailboxMessage → List ℕ
uids_in rows = map (λ row. row.uid) rows

-- rows that give a message these flags
abbrev pub flags_for : ℕ → ℕ → List ℕ → List FlagRow
flags_for id uid flags = map (λ flag. record { mailbox = id; uid = uid; flag = flag }) flags

abbrev pub made_changes : Mailbox → ℕ → List RowChange
made_changes mailbox next = InsertMailbox mailbox ∷ UpdateCounters (record { next = next }) ∷ []
