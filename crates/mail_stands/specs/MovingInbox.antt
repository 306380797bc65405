-- The messages of INBOX that become those of a new mailbox, as rows (RFC 3501 §6.3.5).
use Rattle.std.specs.Prelude.{◌≡◌, ◌≤◌, ℕ, ◌+◌, ◌==◌, ◌&&◌, ◌||◌, Bool, false, not, nat_le, nat_lt, List, [], ◌∷◌, ◌++◌, length, map, filter, count_by, Option, Some, None, is_some}
use Rattle.std.specs.List.{AllByRecursion}
use Rattle.ordered_rows.specs.RowKey.{number_key}
use Rattle.ordered_rows.specs.Listed.{row_at}
use Rattle.row_tables.specs.Keys.{uid_key, mailbox_key, deleted_message_key}
use Rattle.row_tables.specs.Fits.{IsText}
use Rattle.row_tables.specs.Names.{mailbox_named}
use Rattle.row_tables.specs.References.{flags_at, flags_of, uids_of}
use Rattle.row_tables.specs.TableRows.{TableRows}
use Rattle.row_tables.specs.InTurn.{entry_insertions, entry_removals, gone_insertions}
use Rattle.row_tables.specs.declared.heads.Mailbox.{Mailbox}
use Rattle.row_tables.specs.declared.marks.MailboxMessage.{MailboxMessage}
use Rattle.row_tables.specs.declared.marks.DeletedMessage.{DeletedMessage}
use Rattle.row_tables.specs.declared.marks.FlagRow.{FlagRow}
use Rattle.row_tables.specs.declared.change.RowChange.{RowChange}
use Rattle.row_tables.specs.declared.change.RowChange.TheVariants.{InsertFlagRow, InsertMailbox, RemoveFlagRow, UpdateMailbox, UpdateCounters}
use Rattle.mail_world.specs.Names.{inbox, is_mailbox_name}
use Rattle.mail_world.specs.Limits.{most_mailboxes, most_messages, last_modseq}
use Rattle.mail_world.specs.Changes.{Refusal, BadName, Absent, Exists, Full, first_refusal}
use Rattle.mail_world.specs.Users.{next_id}
use Rattle.mail_stands.specs.Refusals.{mailboxes_of}

-- ---- why it is not done, as the tables tell it

-- whether a mailbox has messages, and no mod-sequence left with which they could go
abbrev pub keeps_messages : TableRows → Option Mailbox → Bool
keeps_messages t None = false
keeps_messages t (Some row) = nat_le 1 (length (uids_of row.id t.marks.mailbox_messages)) && nat_le last_modseq row.highest

-- of the name of a mailbox
abbrev pub rename_inbox_refused : TableRows → ℕ → List ℕ → Option Refusal
rename_inbox_refused t owner to =
    first_refusal ((not (is_mailbox_name to), BadName)
    ∷ (not (is_some (mailbox_named owner inbox t.heads.mailboxes)), Absent)
    ∷ (is_some (mailbox_named owner to t.heads.mailboxes), Exists)
    ∷ (nat_le most_mailboxes (length (mailboxes_of owner t.heads.mailboxes)) || t.heads.counters.next == 0, Full)
    ∷ (keeps_messages t (mailbox_named owner inbox t.heads.mailboxes), Full) ∷ [])

-- ---- the rows

-- the rows of a mailbox's messages
abbrev pub messages_of : ℕ → List MailboxMessage → List MailboxMessage
messages_of id rows = filter (λ row. row.mailbox == id) rows

-- the same messages in another mailbox, with one mod-sequence and the UIDs from one on
abbrev pub moved_rows : ℕ → ℕ → ℕ → List MailboxMessage → List MailboxMessage
moved_rows id uid modseq [] = []
moved_rows id uid modseq (row ∷ rows) = record row { mailbox = id; uid = uid; modseq = modseq } ∷ moved_rows id (uid + 1) modseq rows

-- the ids of the flags of a message
abbrev pub flag_ids_of : MailboxMessage → List FlagRow → List ℕ
flag_ids_of row flags = map (λ r. r.flag) (flags_at row.mailbox row.uid flags)

-- their flags there
abbrev pub moved_flags : ℕ → ℕ → List FlagRow → List MailboxMessage → List FlagRow
moved_flags id uid flags [] = []
moved_flags id uid flags (row ∷ rows) = map (λ flag. record { mailbox = id; uid = uid; flag = flag }) (flag_ids_of row flags) ++ moved_flags id (uid + 1) flags rows

abbrev pub flag_row_insertions : List FlagRow → List RowChange
flag_row_insertions rows = map (λ row. InsertFlagRow row) rows

abbrev pub flag_row_removals : List FlagRow → List RowChange
flag_row_removals rows = map (λ row. RemoveFlagRow (row.mailbox, row.uid, row.flag)) rows

-- the messages as gone ones
abbrev pub gone_rows : ℕ → List MailboxMessage → List DeletedMessage
gone_rows modseq rows = map (λ row. record { mailbox = row.mailbox; uid = row.uid; modseq = modseq }) rows

-- the mailbox that takes them; those that were recent still are
abbrev pub highest_of : List MailboxMessage → ℕ
highest_of [] = 1
highest_of (row ∷ rows) = 2

abbrev pub taking_mailbox : ℕ → List ℕ → Mailbox → List MailboxMessage → Mailbox
taking_mailbox id to source rows = record {
  id = id;
  owner = source.owner;
  name = to;
  uidnext = 1 + length rows;
  first_recent = 1 + count_by (λ r. nat_lt r.uid source.first_recent) rows;
  highest = highest_of rows;
}

-- what becomes of INBOX where it had messages
abbrev pub emptied : Mailbox → List MailboxMessage → List RowChange
emptied source [] = []
emptied source (row ∷ rows) = UpdateMailbox (record source { highest = source.highest + 1 }) ∷ []

abbrev pub rename_inbox_changes : TableRows → List ℕ → Mailbox → List RowChange
rename_inbox_changes t to source =
    let rows = messages_of source.id t.marks.mailbox_messages in
    InsertMailbox (taking_mailbox t.heads.counters.next to source rows) ∷ UpdateCounters (record { next = next_id t.heads.counters.next })
    ∷ (entry_insertions (moved_rows t.heads.counters.next 1 2 rows)
    ++ (flag_row_insertions (moved_flags t.heads.counters.next 1 t.marks.flags rows)
    ++ (flag_row_removals (flags_of source.id t.marks.flags)
    ++ (entry_removals source.id (uids_of source.id t.marks.mailbox_messages)
    ++ (gone_insertions (gone_rows (source.highest + 1) rows)
    ++ emptied source rows)))))

-- What the changes ask of the tables, whatever they stand for: no mailbox has the next id, the names aren't too long for rows, INBOX is
-- there with no more messages than a mailbox may have, and none of them is a gone one too.
pub record CanMove (t : TableRows) (to : List ℕ) (source : Mailbox) : Type 0 where
  pub free : row_at mailbox_key (number_key t.heads.counters.next) t.heads.mailboxes ≡ None
  pub text : IsText to
  pub inbox_text : IsText source.name
  pub there : row_at mailbox_key (number_key source.id) t.heads.mailboxes ≡ Some source
  pub gone : AllByRecursion (λ row. row_at deleted_message_key (uid_key row.mailbox row.uid) t.marks.deleted_messages ≡ None) (messages_of source.id t.marks.mailbox_messages)
  pub few : length (messages_of source.id t.marks.mailbox_messages) ≤ most_messages
