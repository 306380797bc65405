-- Which messages may be appended, and the UID that one gets.
use Rattle.std.specs.Prelude.{◌≡◌, ℕ, Bool, true, List, Option, Some, None, is_some}
use Rattle.std.specs.List.{AllByRecursion, list_all, list_any}
use Rattle.imap_grammar.specs.declared.flags.Flag.{Flag}
use Rattle.imap_grammar.specs.Flags.{flag_text}
use Rattle.mime_tree.specs.declared.reasons.Mail.{Mail}
use Rattle.row_tables.specs.Fits.{IsText}
use Rattle.shredder.specs.Fitting.{TreeFits}
use Rattle.mail_world.specs.Flags.{is_flag}
use Rattle.mail_world.specs.Worlds.{World, Mailbox, mailbox_at}
use Rattle.mail_stands.specs.Facts.{IsKept, entry_in}

-- Flags that a message may have: each is written as a text of tables.
pub record AreProper (flags : List Flag) : Type 0 where
  pub flags_are : list_all is_flag flags ≡ true
  pub texts : AllByRecursion (λ flag. IsText (flag_text flag)) flags

-- a mail that was read, or stands for a text that can't be, and whose rows tables can have
pub record IsMail (mail : Mail) : Type 0 where
  pub kept : IsKept mail
  pub fits : TreeFits mail.message

abbrev pub uid_in : Option Mailbox → ℕ
uid_in None = 0
uid_in (Some mailbox) = mailbox.head.uidnext

-- the UID of the next message of a mailbox, which is there
abbrev pub next_uid : World → ℕ → ℕ
next_uid world id = uid_in (mailbox_at id world.mailboxes)

-- whether a mailbox has a message with one of the UIDs
abbrev pub has_one_of : World → ℕ → List ℕ → Bool
has_one_of world id uids = list_any (λ uid. is_some (entry_in id uid world.mailboxes)) uids
