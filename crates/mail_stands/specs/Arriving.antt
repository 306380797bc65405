-- A message that comes into a mailbox, as rows.
use Rattle.std.specs.Prelude.{◌≡◌, ℕ, ◌+◌, ◌||◌, Bool, nat_le, nat_lt, if◌then◌else◌, List, [], ◌∷◌, ◌++◌, length, Option, None}
use Rattle.date_grammar.specs.declared.parts.Stamp.{Stamp}
use Rattle.imap_grammar.specs.declared.flags.Flag.{Flag}
use Rattle.mime_tree.specs.declared.reasons.Mail.{Mail}
use Rattle.ordered_rows.specs.RowKey.{number_key}
use Rattle.ordered_rows.specs.Listed.{row_at}
use Rattle.row_tables.specs.Keys.{message_key}
use Rattle.row_tables.specs.TableRows.{TableRows}
use Rattle.row_tables.specs.References.{uids_of}
use Rattle.row_tables.specs.InTurn.{flag_insertions}
use Rattle.row_tables.specs.declared.heads.Mailbox.{Mailbox}
use Rattle.row_tables.specs.declared.marks.MailboxMessage.{MailboxMessage}
use Rattle.row_tables.specs.declared.contents.BodyPart.{BodyPart}
use Rattle.row_tables.specs.declared.change.RowChange.{RowChange}
use Rattle.row_tables.specs.declared.change.RowChange.TheVariants.{InsertMailboxMessage, UpdateMailbox}
use Rattle.shredder.specs.Shredding.{Shreds}
use Rattle.mail_world.specs.Flags.{distinct}
use Rattle.mail_world.specs.Limits.{most_messages, most_flags, last_uid, last_modseq}
use Rattle.mail_world.specs.Changes.{Refusal, Full, NoUid, first_refusal}
use Rattle.mail_stands.specs.Refusals.{refused_by}
use Rattle.mail_stands.specs.Flagging.{NamesFlags}
use Rattle.mail_stands.specs.Facts.{IsKept}

-- how many messages a mailbox has
abbrev pub message_count : TableRows → ℕ → ℕ
message_count t id = length (uids_of id t.marks.mailbox_messages)

-- whether a mailbox takes no message with so many flags
abbrev pub is_full : TableRows → ℕ → Mailbox → Bool
is_full t flags row = nat_lt most_flags flags || nat_lt most_messages (message_count t row.id + 1) || nat_le last_modseq row.highest

abbrev pub has_no_uid : Mailbox → Bool
has_no_uid row = nat_lt (last_uid + 1) (row.uidnext + 1)

abbrev pub append_refused : TableRows → ℕ → List Flag → Option Refusal
append_refused t id flags =
    refused_by t id (λ row. first_refusal ((is_full t (length (distinct flags)) row, Full) ∷ (has_no_uid row, NoUid) ∷ []))

-- a mailbox with one message more, of which a session is told or none is
abbrev pub with_arrival : Bool → Mailbox → Mailbox
with_arrival taken row = record row {
  uidnext = row.uidnext + 1;
  first_recent = if taken then row.uidnext + 1 else row.first_recent;
  highest = row.highest + 1;
}

abbrev pub arrival_row : Mailbox → ℕ → Stamp → MailboxMessage
arrival_row row message date = record { mailbox = row.id; uid = row.uidnext; message = message; modseq = row.highest + 1; seconds = date.seconds; zone = date.zone }

-- The message comes into the mailbox with the flags of these ids.
abbrev pub arrival_changes : Mailbox → ℕ → Stamp → List ℕ → Bool → List RowChange
arrival_changes row message date flags taken =
    InsertMailboxMessage (arrival_row row message date) ∷ (flag_insertions row.id row.uidnext flags ++ UpdateMailbox (with_arrival taken row) ∷ [])

-- What a message that comes into a mailbox brings: the rows of its mail, under an id that no message has, and the names of its flags.
pub record Brings (content : BodyPart → List ℕ) (t : TableRows) (mail : Mail) (flags : List Flag) (message : ℕ) (rows : List RowChange) (ids : List ℕ) (names : List RowChange) : Type 0 where
  pub shreds : Shreds content t message mail rows
  pub is_new : row_at message_key (number_key message) t.mails.messages ≡ None
  pub names_flags : NamesFlags t.marks (distinct flags) ids names
  pub kept : IsKept mail

-- the changes that append it
abbrev pub append_changes : List RowChange → List RowChange → Mailbox → ℕ → Stamp → List ℕ → Bool → List RowChange
append_changes rows names row message date ids taken = rows ++ (names ++ arrival_changes row message date ids taken)
