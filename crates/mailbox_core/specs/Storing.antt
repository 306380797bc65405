-- What is planned before flags are stored. These serve the contracts of private functions alone.
use Rattle.std.specs.Prelude.{◌≡◌, ℕ, ◌<◌, true, false, List, Some, None}
use Rattle.std.specs.List.{list_any}
use Rattle.imap_grammar.specs.declared.flags.Flag.{Flag}
use Rattle.imap_grammar.specs.declared.flags.FlagChange.{FlagChange}
use Rattle.ordered_rows.specs.RowKey.{number_key}
use Rattle.ordered_rows.specs.Listed.{row_at}
use Rattle.row_tables.specs.Keys.{mailbox_key}
use Rattle.row_tables.specs.TableRows.{TableRows}
use Rattle.row_tables.specs.Fits.{IsText}
use Rattle.row_tables.specs.declared.heads.Mailbox.{Mailbox as Head}
use Rattle.row_tables.specs.declared.contents.BodyPart.{BodyPart}
use Rattle.row_tables.specs.declared.change.RowChange.{RowChange}
use Rattle.row_store.specs.Bodies.{ArePlaced}
use Rattle.mail_world.specs.Limits.{last_modseq}
use Rattle.mail_stands.specs.Flagging.{NamesFlags}
use Rattle.mail_stands.specs.Storing.{given, is_changed, store_changes, store_refused}

-- The name of the mailbox is a text.
abbrev pub HasTextName : TableRows → ℕ → Type 0
HasTextName t id = (row : Head) → row_at mailbox_key (number_key id) t.heads.mailboxes ≡ Some row → IsText row.name

-- No message's flags change, and that isn't refused.
pub record KeepsFlags (t : TableRows) (id : ℕ) (uids : List ℕ) (how : FlagChange) (flags : List Flag) : Type 0 where
  pub none : list_any (is_changed t id how flags) uids ≡ false
  pub room : store_refused t id uids how flags ≡ None

-- Flags of messages change, of the mailbox that has this row, and that isn't refused.
pub record MayStore (t : TableRows) (id : ℕ) (uids : List ℕ) (how : FlagChange) (flags : List Flag) (row : Head) : Type 0 where
  pub found : row_at mailbox_key (number_key id) t.heads.mailboxes ≡ Some row
  pub text : IsText row.name
  pub some : list_any (is_changed t id how flags) uids ≡ true
  pub room : store_refused t id uids how flags ≡ None
  pub modseq : row.highest < last_modseq

-- The flags that messages may get have these ids once the changes are made, which place no body.
pub record NamesGiven (t : TableRows) (flags : List Flag) (ids : List ℕ) (names : List RowChange) : Type 0 where
  pub named : NamesFlags t.marks flags ids names
  pub placed : (placed : List BodyPart) → ArePlaced placed names

-- The changes store the flags, which isn't refused.
pub record PlansStoring (t : TableRows) (id : ℕ) (uids : List ℕ) (how : FlagChange) (flags : List Flag) (changes : List RowChange) : Type 0 where
  pub row : Head
  pub may : MayStore t id uids how flags row
  pub ids : List ℕ
  pub names : List RowChange
  pub naming : NamesGiven t (given how flags) ids names
  pub are : changes ≡ store_changes t row uids how flags ids names
