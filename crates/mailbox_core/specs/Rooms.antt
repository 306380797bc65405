-- These serve the contracts of private functions alone.
use Rattle.std.specs.Prelude.{◌≡◌, ◌⊎◌, ℕ, ◌+◌, List, [], length, Option, Some, None, Result, Ok, Err}
use Rattle.ordered_rows.specs.RowKey.{number_key}
use Rattle.ordered_rows.specs.Listed.{row_at}
use Rattle.row_tables.specs.Keys.{user_key, mailbox_key}
use Rattle.row_tables.specs.TableRows.{TableRows}
use Rattle.row_tables.specs.Fits.{IsText}
use Rattle.row_tables.specs.declared.heads.Mailbox.{Mailbox as Head}
use Rattle.row_tables.specs.declared.change.RowChange.{RowChange}
use Rattle.mail_world.specs.Changes.{Refusal}
use Rattle.mail_stands.specs.RowChanges.{recents_changes}
use Rattle.mailbox_core.specs.declared.faults.MailFault.{MailFault}
use Rattle.mailbox_core.specs.Faults.{fault_of, IsRefusal}

-- no mailbox has the next id
abbrev pub IsFreeMailbox : TableRows → Type 0
IsFreeMailbox t = row_at mailbox_key (number_key t.heads.counters.next) t.heads.mailboxes ≡ None

-- nor has a user the id of the next
abbrev pub IsFreeUser : TableRows → Type 0
IsFreeUser t = row_at user_key (number_key (length t.heads.users + 1)) t.heads.users ≡ None

-- The answer to what is asked: the refusal where there is one, else this, where the ids are free.
abbrev pub AnswersWhere : {T : Type 0} → Type 0 → Result T MailFault → T → Option Refusal → Type 0
AnswersWhere free result answer None = free → result ≡ Ok answer
AnswersWhere free result answer (Some refusal) = result ≡ Err (fault_of refusal)

-- Why nothing is planned: the refusal; where there is none, want of memory, or ids that aren't free.
abbrev pub PlansNone : Type 0 → MailFault → Option Refusal → Type 0
PlansNone free fault None = (fault ≡ MailFault.NoMemory) ⊎ (free → ⊥)
PlansNone free fault (Some refusal) = fault ≡ fault_of refusal

-- the tables with a call's changes are these
abbrev pub AreTables : TableRows → TableRows → TableRows → Type 0
AreTables after before made = made ≡ after

-- a refusal of these, or want of memory
abbrev pub RefusesPlan : List Refusal → MailFault → Type 0
RefusesPlan refusals fault = (fault ≡ MailFault.NoMemory) ⊎ IsRefusal refusals fault

-- The changes by which the recent messages of a mailbox are taken: none where its row has a name that no row may have.
abbrev pub TakesRecents : TableRows → ℕ → List RowChange → Type 0
TakesRecents t id changes =
    ((changes ≡ []) × ((row : Head) → row_at mailbox_key (number_key id) t.heads.mailboxes ≡ Some row → IsText row.name → ⊥))
    ⊎ ((row : Head) × (row_at mailbox_key (number_key id) t.heads.mailboxes ≡ Some row) × IsText row.name × (changes ≡ recents_changes row))
