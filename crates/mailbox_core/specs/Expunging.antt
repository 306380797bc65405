-- What is planned before messages are expunged. These serve the contracts of private functions alone.
use Rattle.std.specs.Prelude.{◌≡◌, ℕ, ◌<◌, ◌&&◌, Bool, true, false, List, None, Some, is_some}
use Rattle.std.specs.List.{list_any}
use Rattle.ordered_rows.specs.RowKey.{number_key}
use Rattle.ordered_rows.specs.Listed.{row_at}
use Rattle.row_tables.specs.Keys.{deleted_message_key, mailbox_key, uid_key}
use Rattle.row_tables.specs.TableRows.{TableRows}
use Rattle.row_tables.specs.Fits.{IsText}
use Rattle.row_tables.specs.declared.heads.Mailbox.{Mailbox as Head}
use Rattle.row_tables.specs.declared.change.RowChange.{RowChange}
use Rattle.mail_world.specs.Limits.{last_modseq}
use Rattle.mail_stands.specs.Storing.{is_there}
use Rattle.mail_stands.specs.Expunging.{AreNotGone, expunge_changes, expunge_refused, there_of}
use Rattle.mailbox_core.specs.Storing.{HasTextName}

-- whether a UID is one of a message and of a gone one too
abbrev pub is_gone : TableRows → ℕ → ℕ → Bool
is_gone t id uid = is_there t id uid && is_some (row_at deleted_message_key (uid_key id uid) t.marks.deleted_messages)

-- The name of the mailbox is a text, and no message is a gone one too.
pub record CanGo (t : TableRows) (id : ℕ) (uids : List ℕ) : Type 0 where
  pub text : HasTextName t id
  pub apart : AreNotGone t id (there_of t id uids)

-- No message is there, and that isn't refused.
pub record HasNoneOf (t : TableRows) (id : ℕ) (uids : List ℕ) : Type 0 where
  pub none : list_any (is_there t id) uids ≡ false
  pub room : expunge_refused t id uids ≡ None

-- Messages are there, of the mailbox that has this row, and that isn't refused.
pub record MayExpunge (t : TableRows) (id : ℕ) (uids : List ℕ) (row : Head) : Type 0 where
  pub found : row_at mailbox_key (number_key id) t.heads.mailboxes ≡ Some row
  pub text : IsText row.name
  pub some : list_any (is_there t id) uids ≡ true
  pub room : expunge_refused t id uids ≡ None
  pub modseq : row.highest < last_modseq
  pub apart : AreNotGone t id (there_of t id uids)

-- The changes expunge the messages, which isn't refused.
pub record PlansExpunging (t : TableRows) (id : ℕ) (uids : List ℕ) (changes : List RowChange) : Type 0 where
  pub row : Head
  pub may : MayExpunge t id uids row
  pub are : changes ≡ expunge_changes t row (there_of t id uids)
