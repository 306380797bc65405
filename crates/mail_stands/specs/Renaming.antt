-- Mailboxes that get other names, as rows (RFC 3501 §6.3.5).
use Rattle.std.specs.Prelude.{◌≡◌, ℕ, ◌==◌, ◌⊎◌, Bool, true, false, nat_lt, List, map, length, Option, Some, None, is_some}
use Rattle.std.specs.List.{AllByRecursion, list_any}
use Rattle.row_tables.specs.Names.{mailbox_named}
use Rattle.row_tables.specs.TableRows.{TableRows}
use Rattle.row_tables.specs.declared.heads.Mailbox.{Mailbox}
use Rattle.row_tables.specs.declared.change.RowChange.{RowChange}
use Rattle.row_tables.specs.declared.change.RowChange.TheVariants.{UpdateMailbox}
use Rattle.mail_world.specs.Names.{is_mailbox_name, is_renamed, renamed_as, longest_name}
use Rattle.mail_world.specs.Changes.{Refusal, BadName, Absent, Exists, InUse, Full, NoUid}

-- A mailbox that is renamed with the name `from` of a user: the user's mailbox of that name, or of one inferior to it.
pub record IsRenamed (t : TableRows) (owner : ℕ) (from : List ℕ) (row : Mailbox) : Type 0 where
  pub named : mailbox_named owner row.name t.heads.mailboxes ≡ Some row
  pub under : is_renamed from row.name ≡ true

-- ---- why it is not done

abbrev pub is_long : List ℕ → List ℕ → Mailbox → Bool
is_long from to row = nat_lt longest_name (length (renamed_as from to row.name))

abbrev pub is_taken : TableRows → ℕ → List ℕ → List ℕ → Mailbox → Bool
is_taken t owner from to row = is_some (mailbox_named owner (renamed_as from to row.name) t.heads.mailboxes)

-- The new name is one, the user has the mailbox, and no renamed mailbox gets a name that is too long or that the user has.
pub record CanRename (t : TableRows) (owner : ℕ) (from to : List ℕ) : Type 0 where
  pub proper : is_mailbox_name to ≡ true
  pub there : is_some (mailbox_named owner from t.heads.mailboxes) ≡ true
  pub short : (row : Mailbox) → IsRenamed t owner from row → is_long from to row ≡ false
  pub free : (row : Mailbox) → IsRenamed t owner from row → is_taken t owner from to row ≡ false

-- Some renamed mailbox gets a name that the user has, and none gets one that is too long.
pub record IsTakenFor (t : TableRows) (owner : ℕ) (from to : List ℕ) : Type 0 where
  pub proper : is_mailbox_name to ≡ true
  pub there : is_some (mailbox_named owner from t.heads.mailboxes) ≡ true
  pub short : (row : Mailbox) → IsRenamed t owner from row → is_long from to row ≡ false
  pub row : Mailbox
  pub renamed : IsRenamed t owner from row
  pub taken : is_taken t owner from to row ≡ true

-- Some renamed mailbox gets a name that is too long.
pub record IsLongFor (t : TableRows) (owner : ℕ) (from to : List ℕ) : Type 0 where
  pub proper : is_mailbox_name to ≡ true
  pub there : is_some (mailbox_named owner from t.heads.mailboxes) ≡ true
  pub row : Mailbox
  pub renamed : IsRenamed t owner from row
  pub long : is_long from to row ≡ true

-- the first reason, as the tables tell it
abbrev pub RefusesRename : TableRows → ℕ → List ℕ → List ℕ → Option Refusal → Type 0
RefusesRename t owner from to None = CanRename t owner from to
RefusesRename t owner from to (Some BadName) = (is_mailbox_name to ≡ false) ⊎ IsLongFor t owner from to
RefusesRename t owner from to (Some Absent) = (is_mailbox_name to ≡ true) × (is_some (mailbox_named owner from t.heads.mailboxes) ≡ false)
RefusesRename t owner from to (Some Exists) = IsTakenFor t owner from to
RefusesRename t owner from to (Some InUse) = ⊥
RefusesRename t owner from to (Some Full) = ⊥
RefusesRename t owner from to (Some NoUid) = ⊥

-- ---- the changes

abbrev pub with_new_name : List ℕ → List ℕ → Mailbox → Mailbox
with_new_name from to row = record row { name = renamed_as from to row.name }

abbrev pub rename_changes : List ℕ → List ℕ → List Mailbox → List RowChange
rename_changes from to rows = map (λ row. UpdateMailbox (with_new_name from to row)) rows

-- all that are renamed, in any order
pub record AreRenamed (t : TableRows) (owner : ℕ) (from : List ℕ) (rows : List Mailbox) : Type 0 where
  pub each : AllByRecursion (IsRenamed t owner from) rows
  pub all : (row : Mailbox) → IsRenamed t owner from row → list_any (λ r. row.id == r.id) rows ≡ true
