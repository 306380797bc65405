-- How mailboxes that are renamed are found and told of. These serve the contracts of private functions alone.
use Rattle.std.specs.Prelude.{◌≡◌, ◌==◌, ◌⊎◌, ℕ, Bool, true, false, nat_eq, List, [], ◌∷◌, Option, Some, None, Result, MatchResult}
use Rattle.std.specs.List.{starts_with}
use Rattle.row_tables.specs.Names.{IsNextMailbox}
use Rattle.row_tables.specs.TableRows.{TableRows}
use Rattle.row_tables.specs.declared.heads.Mailbox.{Mailbox}
use Rattle.row_tables.specs.declared.change.RowChange.{RowChange}
use Rattle.mail_world.specs.Names.{is_renamed, separator}
use Rattle.mail_world.specs.Changes.{Refusal}
use Rattle.mail_stands.specs.Renaming.{AreRenamed, CanRename, RefusesRename, is_long, is_taken, rename_changes}
use Rattle.mailbox_core.specs.declared.faults.MailFault.{MailFault}
use Rattle.mailbox_core.specs.Faults.{fault_of}

-- whether a name ends in front of these bytes, or a level of it does
abbrev pub ends_name : List ℕ → Bool
ends_name [] = true
ends_name (b ∷ rest) = b == separator

-- the next mailbox after a name, where its own name begins with a front
abbrev pub IsNextUnder : ℕ → List ℕ → List ℕ → List Mailbox → Option Mailbox → Type 0
IsNextUnder owner front name rows None = IsNextMailbox owner name rows None ⊎ ((other : Mailbox) × IsNextMailbox owner name rows (Some other) × (starts_with nat_eq other.name front ≡ false))
IsNextUnder owner front name rows (Some row) = IsNextMailbox owner name rows (Some row)

-- What is known of a mailbox that was tested: if it is renamed, its new name isn't too long, and it is taken or not.
pub record IsTested (t : TableRows) (owner : ℕ) (from to : List ℕ) (row : Mailbox) (taken : Bool) : Type 0 where
  pub short : is_renamed from row.name ≡ true → is_long from to row ≡ false
  pub same : is_renamed from row.name ≡ true → is_taken t owner from to row ≡ taken
  pub only : taken ≡ true → is_renamed from row.name ≡ true

-- a fault that tells the first reason why mailboxes aren't renamed
abbrev pub TellsRefusal : TableRows → ℕ → List ℕ → List ℕ → MailFault → Type 0
TellsRefusal t owner from to fault = (refusal : Refusal) × (fault ≡ fault_of refusal) × RefusesRename t owner from to (Some refusal)

abbrev pub ChecksRename : TableRows → ℕ → List ℕ → List ℕ → Result (Unit {0}) MailFault → Type 0
ChecksRename t owner from to result = MatchResult result (λ done. CanRename t owner from to) (TellsRefusal t owner from to)

-- all of a user's mailboxes that are renamed with a name, each by a change of its row
pub record Renames (t : TableRows) (owner : ℕ) (from to : List ℕ) (changes : List RowChange) : Type 0 where
  pub rows : List Mailbox
  pub are : AreRenamed t owner from rows
  pub is : changes ≡ rename_changes from to rows

pub record PlansRename (t : TableRows) (owner : ℕ) (from to : List ℕ) (changes : List RowChange) : Type 0 where
  pub can : CanRename t owner from to
  pub renames : Renames t owner from to changes

-- Why nothing is planned: the refusal; where there is none, want of memory.
abbrev pub PlansNoRename : TableRows → ℕ → List ℕ → List ℕ → MailFault → Type 0
PlansNoRename t owner from to fault = ((fault ≡ MailFault.NoMemory) × CanRename t owner from to) ⊎ TellsRefusal t owner from to fault
