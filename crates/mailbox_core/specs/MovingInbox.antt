-- What is planned before INBOX hands its messages to a new mailbox. These serve the contracts of private functions alone.
use Rattle.std.specs.Prelude.{◌≡◌, ◌<◌, ◌≤◌, ℕ, List, length, Some, None}
use Rattle.ordered_rows.specs.RowKey.{number_key}
use Rattle.ordered_rows.specs.Listed.{row_at}
use Rattle.row_tables.specs.Keys.{mailbox_key}
use Rattle.row_tables.specs.Names.{mailbox_named}
use Rattle.row_tables.specs.TableRows.{TableRows}
use Rattle.row_tables.specs.Fits.{IsText}
use Rattle.row_tables.specs.declared.heads.Mailbox.{Mailbox as Head}
use Rattle.row_tables.specs.declared.change.RowChange.{RowChange}
use Rattle.mail_world.specs.Names.{inbox}
use Rattle.mail_world.specs.Limits.{last_modseq, most_messages}
use Rattle.mail_stands.specs.MovingInbox.{CanMove, messages_of, rename_inbox_changes, rename_inbox_refused}

-- What the changes ask of the tables is so, where the user has an INBOX.
abbrev pub IsMovable : TableRows → ℕ → List ℕ → Type 0
IsMovable t owner to = (row : Head) → mailbox_named owner inbox t.heads.mailboxes ≡ Some row → CanMove t to row

-- The row of INBOX, whose messages may go to a new mailbox of this name; of what is asked only the gone ones aren't tested.
pub record MayMove (t : TableRows) (owner : ℕ) (to : List ℕ) (row : Head) : Type 0 where
  pub found : mailbox_named owner inbox t.heads.mailboxes ≡ Some row
  pub room : rename_inbox_refused t owner to ≡ None
  pub free : row_at mailbox_key (number_key t.heads.counters.next) t.heads.mailboxes ≡ None
  pub text : IsText to
  pub inbox_text : IsText row.name
  pub there : row_at mailbox_key (number_key row.id) t.heads.mailboxes ≡ Some row
  pub few : length (messages_of row.id t.marks.mailbox_messages) ≤ most_messages
  pub modseq : 1 ≤ length (messages_of row.id t.marks.mailbox_messages) → row.highest < last_modseq

-- The changes move the messages, which isn't refused.
pub record PlansMoving (t : TableRows) (owner : ℕ) (to : List ℕ) (changes : List RowChange) : Type 0 where
  pub row : Head
  pub may : MayMove t owner to row
  pub can : CanMove t to row
  pub are : changes ≡ rename_inbox_changes t to row
