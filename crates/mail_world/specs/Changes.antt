-- What can be done to a store, and why it is not.
use Rattle.std.specs.Prelude.{ℕ, Bool, List, [], ◌∷◌, Option, Some, None, if◌then◌else◌}
use Rattle.date_grammar.specs.declared.parts.Stamp.{Stamp}
use Rattle.imap_grammar.specs.declared.flags.Flag.{Flag}
use Rattle.imap_grammar.specs.declared.flags.FlagChange.{FlagChange}
use Rattle.mime_tree.specs.declared.reasons.Mail.{Mail}

-- One change of the store, made whole or not at all.
pub data Change : Type 0 where
  -- a name, and what a password of it is tested against
  AddUser : List ℕ → List ℕ → Change
  -- an owner and a name (RFC 3501 §6.3.3)
  Create : ℕ → List ℕ → Change
  -- an owner and a name, and the ids of the mailboxes that sessions have selected (RFC 3501 §6.3.4)
  Delete : ℕ → List ℕ → List ℕ → Change
  -- an owner, and the name before and after (RFC 3501 §6.3.5)
  Rename : ℕ → List ℕ → List ℕ → Change
  -- an owner and a name (RFC 3501 §6.3.6, §6.3.7)
  Subscribe : ℕ → List ℕ → Change
  Unsubscribe : ℕ → List ℕ → Change
  -- a mailbox, the flags, internal date and mail of a message, and whether a session has the mailbox selected read-write, which is
  -- then told of the message as recent (RFC 3501 §6.3.11)
  Append : ℕ → List Flag → Stamp → Mail → Bool → Change
  -- the users to whom a mail comes, the mail and its date, and the ids of the mailboxes that sessions have selected read-write
  Deliver : List ℕ → Mail → Stamp → List ℕ → Change
  -- a mailbox, UIDs in it, another mailbox or the same, and whether a session has that one selected read-write (RFC 3501 §6.4.7)
  Copy : ℕ → List ℕ → ℕ → Bool → Change
  -- a mailbox, UIDs in it, and what is done with which flags (RFC 3501 §6.4.6)
  StoreFlags : ℕ → List ℕ → FlagChange → List Flag → Change
  -- a mailbox, and the UIDs that are taken away, whatever their flags (RFC 3501 §6.4.3, RFC 4315 §2.1)
  Expunge : ℕ → List ℕ → Change
  -- a mailbox, whose recent messages a session that selects it is told of (RFC 3501 §6.3.1)
  TakeRecents : ℕ → Change

-- Why a change is not made.
pub data Refusal : Type 0 where
  -- a name that none can have, or INBOX where that can't be
  BadName : Refusal
  -- no such mailbox, or no such subscription
  Absent : Refusal
  -- a user or a mailbox has the name
  Exists : Refusal
  -- a session has the mailbox selected
  InUse : Refusal
  -- a limit would be passed
  Full : Refusal
  -- the mailbox has given its last UID
  NoUid : Refusal

-- the first reason that holds
abbrev pub first_refusal : List (Bool × Refusal) → Option Refusal
first_refusal [] = None
first_refusal (reason ∷ reasons) = if reason.0 then Some reason.1 else first_refusal reasons
