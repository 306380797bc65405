-- What is planned before a message is appended. These serve the contracts of private functions alone.
use Rattle.std.specs.Prelude.{◌≡◌, ℕ, true, List, Some, None}
use Rattle.std.specs.List.{list_all}
use Rattle.imap_grammar.specs.declared.flags.Flag.{Flag}
use Rattle.ordered_rows.specs.RowKey.{number_key}
use Rattle.ordered_rows.specs.Listed.{row_at}
use Rattle.row_tables.specs.Keys.{mailbox_key, mailbox_message_key, uid_key}
use Rattle.row_tables.specs.TableRows.{TableRows}
use Rattle.row_tables.specs.Fits.{IsText}
use Rattle.row_tables.specs.declared.heads.Mailbox.{Mailbox as Head}
use Rattle.row_tables.specs.declared.contents.BodyPart.{BodyPart}
use Rattle.row_tables.specs.declared.change.RowChange.{RowChange}
use Rattle.row_store.specs.Bodies.{ArePlaced}
use Rattle.mail_world.specs.Flags.{distinct, is_flag}
use Rattle.mail_stands.specs.Arriving.{append_refused}
use Rattle.mail_stands.specs.Flagging.{NamesFlags}

-- No message has the next UID of the mailbox, whose name is a text.
abbrev pub HasNextFree : TableRows → ℕ → Type 0
HasNextFree t id = (row : Head) → row_at mailbox_key (number_key id) t.heads.mailboxes ≡ Some row
    → IsText row.name × (row_at mailbox_message_key (uid_key id row.uidnext) t.marks.mailbox_messages ≡ None)

-- The flags have these ids once the changes are made, which place no body.
pub record PlansFlags (t : TableRows) (flags : List Flag) (ids : List ℕ) (names : List RowChange) : Type 0 where
  pub named : NamesFlags t.marks (distinct flags) ids names
  pub placed : (placed : List BodyPart) → ArePlaced placed names

-- There is room in the mailbox of an id, which has this row, for a message with the flags of these ids.
pub record PlansArrival (t : TableRows) (id : ℕ) (flags : List Flag) (row : Head) (ids : List ℕ) (names : List RowChange) : Type 0 where
  pub found : row_at mailbox_key (number_key id) t.heads.mailboxes ≡ Some row
  pub room : append_refused t id flags ≡ None
  pub text : IsText row.name
  pub free : row_at mailbox_message_key (uid_key id row.uidnext) t.marks.mailbox_messages ≡ None
  pub proper : list_all is_flag flags ≡ true
  pub flags_are : PlansFlags t flags ids names
