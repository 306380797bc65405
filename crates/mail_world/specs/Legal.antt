-- What holds of every store that is made by changes from nothing.
use Rattle.std.specs.Prelude.{◌≡◌, ◌≢◌, ◌==◌, ℕ, ◌+◌, ◌<◌, ◌≤◌, true, ⊤, List, [], ◌∷◌, length, map, count_by, Some, None, IsSome}
use Rattle.std.specs.List.{AllByRecursion, list_all, range_with_len}
use Rattle.date_grammar.specs.Stamps.{HasPrint}
use Rattle.imap_grammar.specs.declared.flags.Flag.{Flag}
use Rattle.ordered_rows.specs.Listed.{IsInOrder}
use Rattle.row_tables.specs.Keys.{subscription_key}
use Rattle.row_tables.specs.Names.{user_named}
use Rattle.row_tables.specs.declared.heads.User.{User}
use Rattle.mail_world.specs.Names.{inbox}
use Rattle.mail_world.specs.Flags.{is_flag, are_distinct}
use Rattle.mail_world.specs.Worlds.{World, Mailbox, Entry, Gone, user_at, mailbox_at, mailbox_named, entry_at, gone_at, is_owned_by}
use Rattle.mail_world.specs.Changes.{Change, Create, Append, Deliver, StoreFlags}
use Rattle.mail_world.specs.Limits.{most_users, most_mailboxes, most_subscriptions, most_messages, most_flags, last_mailbox, last_uid, last_modseq}

-- each number is less than all behind it
abbrev pub Ascend : List ℕ → Type 0
Ascend [] = ⊤
Ascend (n ∷ numbers) = AllByRecursion (λ m. n < m) numbers × Ascend numbers

-- a UID that the mailbox has given, and a mod-sequence that it has reached
pub record IsGiven (mailbox : Mailbox) (uid modseq : ℕ) : Type 0 where
  pub from_one : 1 ≤ uid
  pub below_next : uid < mailbox.head.uidnext
  pub reached : modseq ≤ mailbox.head.highest

-- The flags of a message: each of them once.
pub record AreFlags (flags : List Flag) : Type 0 where
  pub once : are_distinct flags ≡ true
  pub few : length flags ≤ most_flags
  pub proper : list_all is_flag flags ≡ true

pub record IsLegalEntry (mailbox : Mailbox) (entry : Entry) : Type 0 where
  pub given : IsGiven mailbox entry.uid entry.modseq
  pub flags : AreFlags entry.message.flags
  pub date : HasPrint entry.message.date

-- A mailbox by itself: each message has a UID that was given, and no UID is of two, nor of one that is there and one that is gone.
pub record IsLegalMailbox (mailbox : Mailbox) : Type 0 where
  pub uids : Ascend (map (λ entry. entry.uid) mailbox.entries)
  pub gone_uids : Ascend (map (λ pair. pair.uid) mailbox.gone)
  pub apart : (uid : ℕ) → IsSome (entry_at uid mailbox.entries) → gone_at uid mailbox.gone ≡ None
  pub entries : (uid : ℕ) (entry : Entry) → entry_at uid mailbox.entries ≡ Some entry → IsLegalEntry mailbox entry
  pub gone : (uid : ℕ) (pair : Gone) → gone_at uid mailbox.gone ≡ Some pair → IsGiven mailbox pair.uid pair.modseq
  pub recent : (1 ≤ mailbox.head.first_recent) × (mailbox.head.first_recent ≤ mailbox.head.uidnext)
  pub uidnext : mailbox.head.uidnext ≤ last_uid + 1
  pub highest : mailbox.head.highest ≤ last_modseq
  pub few : length mailbox.entries ≤ most_messages

-- A mailbox among the others: its id was given, its owner is there, and no other mailbox of the owner has its name.
pub record IsLegalIn (world : World) (mailbox : Mailbox) : Type 0 where
  pub from_one : 1 ≤ mailbox.head.id
  pub below_next : (world.next ≢ 0) → mailbox.head.id < world.next
  pub owner : IsSome (user_at mailbox.head.owner world.users)
  pub named : mailbox_named mailbox.head.owner mailbox.head.name world.mailboxes ≡ Some mailbox
  pub itself : IsLegalMailbox mailbox

-- The store: users are numbered from 1 on, and no two have one name. Every user has an INBOX.
pub record IsLegal (world : World) : Type 0 where
  pub user_ids : map (λ user. user.id) world.users ≡ range_with_len 1 (length world.users)
  pub user_names : (id : ℕ) (user : User) → user_at id world.users ≡ Some user → user_named user.name world.users ≡ Some user
  pub few_users : length world.users ≤ most_users
  pub mailbox_ids : Ascend (map (λ mailbox. mailbox.head.id) world.mailboxes)
  pub mailboxes : (id : ℕ) (mailbox : Mailbox) → mailbox_at id world.mailboxes ≡ Some mailbox → IsLegalIn world mailbox
  pub inboxes : (user : ℕ) → IsSome (user_at user world.users) → IsSome (mailbox_named user inbox world.mailboxes)
  pub few_mailboxes : (user : ℕ) → count_by (is_owned_by user) world.mailboxes ≤ most_mailboxes
  pub subscriptions : IsInOrder subscription_key world.subscriptions
  pub subscribers : AllByRecursion (λ subscription. IsSome (user_at subscription.owner world.users)) world.subscriptions
  pub few_subscriptions : (user : ℕ) → count_by (λ subscription. subscription.owner == user) world.subscriptions ≤ most_subscriptions
  pub next : world.next ≤ last_mailbox

-- What who asks for a change makes sure of: a mailbox is made for a user, and flags and dates are ones.
abbrev pub IsProper : World → Change → Type 0
IsProper world (Create owner name) = IsSome (user_at owner world.users)
IsProper world (Append id flags date mail taken) = (list_all is_flag flags ≡ true) × HasPrint date
IsProper world (Deliver users mail date taken) = HasPrint date
IsProper world (StoreFlags id uids how flags) = list_all is_flag flags ≡ true
IsProper world change = ⊤
