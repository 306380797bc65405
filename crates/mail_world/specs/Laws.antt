-- What users rely on, whatever changes are made.
use Rattle.std.specs.Prelude.{◌≡◌, ◌≢◌, ℕ, ◌<◌, ◌≤◌, ◌⊎◌, ◌==◌, ◌&&◌, Bool, true, false, Some, None, IsSomeAnd}
use Rattle.std.specs.List.{list_any}
use Rattle.mail_world.specs.Worlds.{World, Mailbox, Entry, Gone, mailbox_at, entry_at, gone_at, has_id, is_owned_by, is_among}
use Rattle.mail_world.specs.Changes.{Change, AddUser, Create, Delete, Rename, Subscribe, Unsubscribe, Append, Deliver, Copy, StoreFlags, Expunge, TakeRecents}
use Rattle.mail_world.specs.Users.{new_user_id}

-- the same mail, with the same internal date
pub record IsSameMail (before after : Entry) : Type 0 where
  pub mail : after.message.mail ≡ before.message.mail
  pub date : after.message.date ≡ before.message.date

-- A UID means one message for as long as its mailbox lives (RFC 3501 §2.3.1.1).
pub record KeepsUids (before after : Mailbox) : Type 0 where
  -- a new message has a UID from the next one on
  pub rises : before.head.uidnext ≤ after.head.uidnext
  -- a message with an earlier UID was there, and is the same
  pub same : (uid : ℕ) (entry : Entry) → entry_at uid after.entries ≡ Some entry → uid < before.head.uidnext
      → IsSomeAnd (entry_at uid before.entries) (λ old. IsSameMail old entry)
  -- what was gone is gone
  pub gone : (uid : ℕ) (pair : Gone) → gone_at uid before.gone ≡ Some pair → gone_at uid after.gone ≡ Some pair
  -- what isn't there any more is kept as gone, with a later mod-sequence (RFC 5162 §3.2)
  pub kept : (uid : ℕ) (entry : Entry) → entry_at uid before.entries ≡ Some entry → entry_at uid after.entries ≡ None
      → IsSomeAnd (gone_at uid after.gone) (λ pair. before.head.highest < pair.modseq)

-- Mod-sequences only rise, and what changed has a later one (RFC 4551 §3).
pub record RaisesModseqs (before after : Mailbox) : Type 0 where
  pub rises : before.head.highest ≤ after.head.highest
  -- a message is as it was, or has a new mod-sequence
  pub entries : (uid : ℕ) (entry : Entry) → entry_at uid after.entries ≡ Some entry
      → (entry_at uid before.entries ≡ Some entry) ⊎ ((before.head.highest < entry.modseq) × (entry.modseq ≤ after.head.highest))
  pub gone : (uid : ℕ) (pair : Gone) → gone_at uid after.gone ≡ Some pair
      → (gone_at uid before.gone ≡ Some pair) ⊎ ((before.head.highest < pair.modseq) × (pair.modseq ≤ after.head.highest))

-- A message is recent to one session (RFC 3501 §2.3.2): where a session is told of it as it comes, no later one is; else the next
-- one that selects the mailbox is. What isn't recent any more won't be again.
pub record TellsOnce (told : Bool) (before after : Mailbox) : Type 0 where
  pub rises : before.head.first_recent ≤ after.head.first_recent
  pub to_this : told ≡ true → (uid : ℕ) (entry : Entry) → entry_at uid after.entries ≡ Some entry → before.head.uidnext ≤ uid
      → uid < after.head.first_recent
  pub to_next : told ≡ false → (uid : ℕ) (entry : Entry) → entry_at uid after.entries ≡ Some entry → before.head.uidnext ≤ uid
      → after.head.first_recent ≤ uid

-- whether a change tells a session that has a mailbox selected of the messages that come into it
abbrev pub tells : Change → Mailbox → Bool
tells (Append id flags date mail taken) mailbox = has_id id mailbox && taken
tells (Deliver users mail date taken) mailbox = is_among mailbox.head.id taken
tells (Copy id uids target taken) mailbox = has_id target mailbox && taken
tells change mailbox = false

-- What a mailbox after a change owes to the same before it.
pub record Follows (change : Change) (before after : Mailbox) : Type 0 where
  pub uids : KeepsUids before after
  pub modseqs : RaisesModseqs before after
  pub recents : TellsOnce (tells change before) before after
  pub owner : after.head.owner ≡ before.head.owner

-- whether a mailbox of an id is a user's
abbrev pub owns : World → ℕ → ℕ → Bool
owns world user id = list_any (λ mailbox. has_id id mailbox && is_owned_by user mailbox) world.mailboxes

-- whether a change is one of a user's part: it names the user, or a mailbox of the user's into which it writes
unfoldable pub touches : World → Change → ℕ → Bool
touches world (AddUser name verifier) user = user == new_user_id world
touches world (Create owner name) user = user == owner
touches world (Delete owner name held) user = user == owner
touches world (Rename owner from to) user = user == owner
touches world (Subscribe owner name) user = user == owner
touches world (Unsubscribe owner name) user = user == owner
touches world (Append mailbox flags date mail taken) user = owns world user mailbox
touches world (Deliver users mail date taken) user = is_among user users
touches world (Copy mailbox uids target taken) user = owns world user target
touches world (StoreFlags mailbox uids how flags) user = owns world user mailbox
touches world (Expunge mailbox uids) user = owns world user mailbox
touches world (TakeRecents mailbox) user = owns world user mailbox

-- an id that a mailbox was given
pub record WasGiven (world : World) (id : ℕ) : Type 0 where
  pub from_one : 1 ≤ id
  pub below_next : (world.next ≢ 0) → id < world.next

-- The id of a mailbox is its UIDVALIDITY, and no two mailboxes ever have one (RFC 3501 §2.3.1.1): an id that was given stays so, and
-- once its mailbox is deleted, none has it again.
pub record KeepsIds (before after : World) : Type 0 where
  pub given : (id : ℕ) → WasGiven before id → WasGiven after id
  pub once : (id : ℕ) → WasGiven before id → mailbox_at id before.mailboxes ≡ None → mailbox_at id after.mailboxes ≡ None
