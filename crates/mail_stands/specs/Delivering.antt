-- A mail that comes into several INBOXes at once, as rows (RFC 2033).
use Rattle.std.specs.Prelude.{◌≡◌, ℕ, ◌==◌, ◌||◌, Bool, true, false, if◌then◌else◌, List, [], ◌∷◌, ◌++◌, Option, Some, None}
use Rattle.std.specs.List.{AllByRecursion, find, flat_map, list_any}
use Rattle.std.specs.Option.{option_map}
use Rattle.date_grammar.specs.declared.parts.Stamp.{Stamp}
use Rattle.mime_tree.specs.declared.reasons.Mail.{Mail}
use Rattle.ordered_rows.specs.RowKey.{number_key}
use Rattle.ordered_rows.specs.Listed.{row_at}
use Rattle.row_tables.specs.Keys.{mailbox_message_key, message_key, uid_key}
use Rattle.row_tables.specs.Names.{mailbox_named}
use Rattle.row_tables.specs.TableRows.{TableRows}
use Rattle.row_tables.specs.Fits.{IsText}
use Rattle.row_tables.specs.declared.heads.Mailbox.{Mailbox}
use Rattle.row_tables.specs.declared.contents.BodyPart.{BodyPart}
use Rattle.row_tables.specs.declared.change.RowChange.{RowChange}
use Rattle.shredder.specs.Shredding.{Shreds}
use Rattle.mail_world.specs.Names.{inbox}
use Rattle.mail_world.specs.Worlds.{World, is_among}
use Rattle.mail_world.specs.Arrivals.{takes_mail}
use Rattle.mail_stands.specs.Facts.{IsKept}
use Rattle.mail_stands.specs.Arriving.{arrival_changes, has_no_uid, is_full}

-- the UID that a mail gets in the INBOX of a user, none where that doesn't take it
abbrev pub uid_for : World → ℕ → Option ℕ
uid_for world user = option_map (λ mailbox. mailbox.head.uidnext) (find (takes_mail (user ∷ [])) world.mailboxes)

-- ---- who gets it, as the tables tell it

abbrev pub if_open : TableRows → Option Mailbox → Option Mailbox
if_open t None = None
if_open t (Some row) = if is_full t 0 row || has_no_uid row then None else Some row

-- the INBOX of a user, where it takes a message more
abbrev pub open_inbox : TableRows → ℕ → Option Mailbox
open_inbox t user = if_open t (mailbox_named user inbox t.heads.mailboxes)

-- An INBOX of one of the users that gets the mail. Its name is a text, and no message has its next UID, as is so of all tables that
-- stand for a world.
pub record IsReceiver (t : TableRows) (users : List ℕ) (row : Mailbox) : Type 0 where
  pub user : is_among row.owner users ≡ true
  pub takes : open_inbox t row.owner ≡ Some row
  pub text : IsText row.name
  pub free : row_at mailbox_message_key (uid_key row.id row.uidnext) t.marks.mailbox_messages ≡ None

-- no two have one id
abbrev pub AreOnce : List Mailbox → Type 0
AreOnce [] = Unit {0}
AreOnce (row ∷ rows) = AllByRecursion (λ other. (row.id == other.id) ≡ false) rows × AreOnce rows

-- Each INBOX gets it once.
pub record AreReceivers (t : TableRows) (users : List ℕ) (rows : List Mailbox) : Type 0 where
  pub each : AllByRecursion (IsReceiver t users) rows
  pub once : AreOnce rows

-- whether a mailbox, if it is there, is one of these
abbrev pub is_one_of : List Mailbox → Option Mailbox → Bool
is_one_of rows None = true
is_one_of rows (Some row) = list_any (λ other. row.id == other.id) rows

-- The INBOX of each user that takes a message more gets it.
abbrev pub AreAll : TableRows → List ℕ → List Mailbox → Type 0
AreAll t users rows = AllByRecursion (λ user. is_one_of rows (open_inbox t user) ≡ true) users

-- ---- the changes

-- The rows of the mail, under an id that no message has.
pub record BringsMail (content : BodyPart → List ℕ) (t : TableRows) (mail : Mail) (message : ℕ) (rows : List RowChange) : Type 0 where
  pub shreds : Shreds content t message mail rows
  pub is_new : row_at message_key (number_key message) t.mails.messages ≡ None
  pub kept : IsKept mail

-- The message comes into a mailbox with no flags; a session that has selected it, if one has, is told of it.
abbrev pub arrival_of : ℕ → Stamp → List ℕ → Mailbox → List RowChange
arrival_of message date taken row = arrival_changes row message date [] (is_among row.id taken)

-- The rows of the mail come once, and the message into each mailbox.
abbrev pub deliver_changes : List RowChange → List Mailbox → ℕ → Stamp → List ℕ → List RowChange
deliver_changes mail rows message date taken = mail ++ flat_map (arrival_of message date taken) rows
