-- What a mail store is to its users, as plain lists.
use Rattle.std.specs.Prelude.{ℕ, ◌==◌, Bool, List, [], Option, filter, find}
use Rattle.std.specs.List.{list_any}
use Rattle.row_tables.specs.declared.heads.User.{User}
use Rattle.row_tables.specs.declared.heads.Mailbox.{Mailbox as Head}
use Rattle.row_tables.specs.declared.heads.Subscription.{Subscription}
use Rattle.row_tables.specs.Names.{has_mailbox_name}
use Rattle.date_grammar.specs.declared.parts.Stamp.{Stamp}
use Rattle.imap_grammar.specs.declared.flags.Flag.{Flag}
use Rattle.mime_tree.specs.declared.reasons.Mail.{Mail}

-- A message as it came into a mailbox: its flags (RFC 3501 §2.3.2), its internal date (§2.3.3), and the mail: a tree,
-- with the reason where it stands for a text that can't be read.
pub record Message : Type 0 where
  pub flags : List Flag
  pub date : Stamp
  pub mail : Mail

-- A message in its mailbox: its UID there (RFC 3501 §2.3.1.1), and the mod-sequence of the last change of it (RFC 4551 §3).
pub record Entry : Type 0 where
  pub uid : ℕ
  pub modseq : ℕ
  pub message : Message

-- A message that was expunged: its UID, and the mod-sequence of that (RFC 5162 §3.2).
pub record Gone : Type 0 where
  pub uid : ℕ
  pub modseq : ℕ

-- A mailbox. Its head is the row of the table: the id, which is its UIDVALIDITY, the owner and the name, the UID of the next
-- message, the first UID that is recent still, and the highest mod-sequence. The messages and the gone ones are in the order of
-- their UIDs.
pub record Mailbox : Type 0 where
  pub head : Head
  pub entries : List Entry
  pub gone : List Gone

-- The store: users and mailboxes in the order of their ids, subscriptions by owner and name, and the id of the next mailbox,
-- 0 once the last is given.
pub record World : Type 0 where
  pub users : List User
  pub mailboxes : List Mailbox
  pub subscriptions : List Subscription
  pub next : ℕ

-- a store as it is made
abbrev pub no_world : World
no_world = record { users = []; mailboxes = []; subscriptions = []; next = 1 }

abbrev pub is_among : ℕ → List ℕ → Bool
is_among n numbers = list_any (λ number. number == n) numbers

abbrev pub user_at : ℕ → List User → Option User
user_at id users = find (λ user. user.id == id) users

abbrev pub has_id : ℕ → Mailbox → Bool
has_id id mailbox = mailbox.head.id == id

abbrev pub is_owned_by : ℕ → Mailbox → Bool
is_owned_by user mailbox = mailbox.head.owner == user

abbrev pub is_named : ℕ → List ℕ → Mailbox → Bool
is_named owner name mailbox = has_mailbox_name owner name mailbox.head

abbrev pub mailbox_at : ℕ → List Mailbox → Option Mailbox
mailbox_at id mailboxes = find (has_id id) mailboxes

abbrev pub mailbox_named : ℕ → List ℕ → List Mailbox → Option Mailbox
mailbox_named owner name mailboxes = find (is_named owner name) mailboxes

abbrev pub entry_at : ℕ → List Entry → Option Entry
entry_at uid entries = find (λ entry. entry.uid == uid) entries

abbrev pub gone_at : ℕ → List Gone → Option Gone
gone_at uid gone = find (λ pair. pair.uid == uid) gone

-- A user's own part of the store.
pub record Own : Type 0 where
  pub user : Option User
  pub mailboxes : List Mailbox
  pub subscriptions : List Subscription

unfoldable pub own : World → ℕ → Own
own world user = record {
  user = user_at user world.users;
  mailboxes = filter (is_owned_by user) world.mailboxes;
  subscriptions = filter (λ subscription. subscription.owner == user) world.subscriptions;
}
