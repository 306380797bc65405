-- How rows stand for what is in mailboxes: what of the world a key finds, and the row there.
use Rattle.std.specs.Prelude.{◌≡◌, ℕ, Bool, List, [], Option, Some, None}
use Rattle.std.specs.List.{list_any}
use Rattle.std.specs.Option.{option_map, option_and_then}
use Rattle.imap_grammar.specs.declared.flags.Flag.{Flag}
use Rattle.imap_grammar.specs.Flags.{flag_text}
use Rattle.mime_tree.specs.declared.reasons.Mail.{Mail}
use Rattle.mime_reader.specs.Wrapping.{mail}
use Rattle.ordered_rows.specs.Listed.{row_at}
use Rattle.row_tables.specs.Keys.{uid_key, mailbox_message_key, deleted_message_key}
use Rattle.row_tables.specs.TableRows.{TableRows, no_rows}
use Rattle.row_tables.specs.declared.contents.BodyPart.{BodyPart}
use Rattle.row_tables.specs.declared.marks.MailboxMessage.{MailboxMessage}
use Rattle.row_tables.specs.declared.marks.DeletedMessage.{DeletedMessage}
use Rattle.row_store.specs.Holding.{Stored, stored_by}
use Rattle.shredder.specs.MessageRows.{HasRows}
use Rattle.mail_world.specs.Names.{same_name}
use Rattle.mail_world.specs.Worlds.{Mailbox, Entry, Gone, mailbox_at, entry_at, gone_at}

-- Both are there and related, or neither is.
abbrev pub AreTied : {X Y : Type 0} → (X → Y → Type 0) → Option X → Option Y → Type 0
AreTied R None None = Unit {0}
AreTied R None (Some y) = ⊥
AreTied R (Some x) None = ⊥
AreTied R (Some x) (Some y) = R x y

pub record Tied {X Y : Type 0} (R : X → Y → Type 0) (a : Option X) (b : Option Y) : Type 0 where
  pub tie : AreTied R a b

-- ---- what a mailbox and a UID find

abbrev pub entry_in : ℕ → ℕ → List Mailbox → Option Entry
entry_in id uid mailboxes = option_and_then (λ mailbox. entry_at uid mailbox.entries) (mailbox_at id mailboxes)

abbrev pub gone_in : ℕ → ℕ → List Mailbox → Option Gone
gone_in id uid mailboxes = option_and_then (λ mailbox. gone_at uid mailbox.gone) (mailbox_at id mailboxes)

-- the flags of a message, none where it isn't there
abbrev pub flags_of : Option Entry → List Flag
flags_of None = []
flags_of (Some entry) = entry.message.flags

-- whether one of the flags is written so
abbrev pub has_flag_named : List ℕ → List Flag → Bool
has_flag_named name flags = list_any (λ flag. same_name (flag_text flag) name) flags

-- ---- messages

-- The rows of messages and those that messages share, with the contents of bodies. No other table has a part in what a message is.
abbrev pub mails_in : (BodyPart → List ℕ) → TableRows → Stored
mails_in content t = stored_by content (record no_rows { mails = t.mails; shared = t.shared })

-- A mail that was read, or that stands for a text which can't be read.
pub record IsKept (its : Mail) : Type 0 where
  pub bytes : List ℕ
  pub now : ℕ
  pub is : its ≡ mail bytes now

-- The row of a mailbox's message, and the rows of the mail that it names, are those of the entry.
pub record IsEntryRow (mails : Stored) (row : MailboxMessage) (entry : Entry) : Type 0 where
  pub modseq : row.modseq ≡ entry.modseq
  pub seconds : row.seconds ≡ entry.message.date.seconds
  pub zone : row.zone ≡ entry.message.date.zone
  pub rows : HasRows mails row.message entry.message.mail
  pub kept : IsKept entry.message.mail

-- The rows of the messages of mailboxes are exactly those of the entries.
abbrev pub AreEntries : Stored → List MailboxMessage → List Mailbox → Type 0
AreEntries mails rows mailboxes = (id uid : ℕ) → Tied (IsEntryRow mails) (row_at mailbox_message_key (uid_key id uid) rows) (entry_in id uid mailboxes)

-- ---- gone messages

abbrev pub gone_row : ℕ → Gone → DeletedMessage
gone_row id pair = record { mailbox = id; uid = pair.uid; modseq = pair.modseq }

-- The rows of gone messages are exactly those of the gone pairs.
abbrev pub AreGone : List DeletedMessage → List Mailbox → Type 0
AreGone rows mailboxes = (id uid : ℕ) → row_at deleted_message_key (uid_key id uid) rows ≡ option_map (gone_row id) (gone_in id uid mailboxes)
