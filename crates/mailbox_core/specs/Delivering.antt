-- What a delivery answers; and what is planned before it, which serves the contracts of private functions alone.
use Rattle.std.specs.Prelude.{◌≡◌, ℕ, ◌<◌, ◌&&◌, Bool, true, not, nat_lt, if◌then◌else◌, List, [], ◌∷◌, ◌++◌, length, map, Option, Some, None, is_some, Result, Ok, Err}
use Rattle.std.specs.Global.{Vec}
use Rattle.std.specs.List.{AllByRecursion}
use Rattle.std.specs.Option.{option_map}
use Rattle.ordered_rows.specs.Listed.{row_at}
use Rattle.row_tables.specs.Keys.{mailbox_message_key, uid_key}
use Rattle.row_tables.specs.TableRows.{TableRows}
use Rattle.row_tables.specs.declared.heads.Mailbox.{Mailbox as Head}
use Rattle.row_store.specs.declared.faults.StoreFault.{StoreFault}
use Rattle.mail_stands.specs.Delivering.{AreReceivers, is_one_of, open_inbox}
use Rattle.mailbox_core.specs.declared.faults.MailFault.{MailFault}
use Rattle.mailbox_core.specs.Faults.{fault_in}

-- the answer of a call that gives a list and refuses nothing, among those of calls that refuse
abbrev pub listed_answer : {T : Type 0} → Result (Vec T) StoreFault → Result (List T) MailFault
listed_answer (Ok answer) = Ok answer.items
listed_answer (Err fault) = Err (fault_in fault)

-- nobody's INBOX took it
abbrev pub AreNone : List (Option ℕ) → Type 0
AreNone uids = AllByRecursion (λ uid. uid ≡ None) uids

-- ---- the plan

-- whether a row's name is a text, and no message has its next UID
abbrev pub is_free : TableRows → Head → Bool
is_free t row = not (nat_lt 4294967295 (length row.name)) && not (is_some (row_at mailbox_message_key (uid_key row.id row.uidnext) t.marks.mailbox_messages))

abbrev pub if_free : TableRows → Option Head → Option Head
if_free t None = None
if_free t (Some row) = if is_free t row then Some row else None

-- the INBOX of a user that gets a mail
abbrev pub receiver : TableRows → ℕ → Option Head
receiver t user = if_free t (open_inbox t user)

-- the UID that the mail gets there
abbrev pub uid_of : Option Head → Option ℕ
uid_of row = option_map (λ r. r.uidnext) row

-- Each INBOX of the users that gets a mail, once, and for each user the UID.
pub record PlansDelivery (t : TableRows) (users : List ℕ) (rows : List Head) (uids : List (Option ℕ)) : Type 0 where
  pub are : AreReceivers t users rows
  pub all : AllByRecursion (λ user. is_one_of rows (receiver t user) ≡ true) users
  pub uids_are : uids ≡ map (λ user. uid_of (receiver t user)) users

-- with an INBOX that gets it
abbrev pub with_receiver : List Head → Head → List Head
with_receiver rows row = if is_one_of rows (Some row) then rows else rows ++ row ∷ []

-- a UID and a mod-sequence are left
pub record HasLeft (row : Head) : Type 0 where
  pub uid : row.uidnext < 4294967295
  pub modseq : row.highest < 18446744073709551615
