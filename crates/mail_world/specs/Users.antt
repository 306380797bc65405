-- Mailboxes that are made and deleted, and users, who have an INBOX from the start (RFC 3501 §6.3.3, §6.3.4).
use Rattle.std.specs.Prelude.{ℕ, ◌+◌, ◌==◌, ◌||◌, Bool, false, not, nat_le, if◌then◌else◌, List, [], ◌∷◌, ◌++◌, length, Option, Some, None, is_some, filter, count_by}
use Rattle.row_tables.specs.Names.{user_named}
use Rattle.mail_world.specs.Names.{inbox, is_inbox, is_mailbox_name, is_user_name}
use Rattle.mail_world.specs.Worlds.{World, Mailbox, mailbox_named, is_among, is_named, is_owned_by}
use Rattle.mail_world.specs.Limits.{most_users, most_mailboxes, last_mailbox}
use Rattle.mail_world.specs.Changes.{Refusal, BadName, Absent, Exists, InUse, Full, first_refusal}

-- A mailbox as it is made: without messages, and all that it counts at 1.
abbrev pub new_mailbox : ℕ → ℕ → List ℕ → Mailbox
new_mailbox id owner name = record {
  head = record { id = id; owner = owner; name = name; uidnext = 1; first_recent = 1; highest = 1 };
  entries = [];
  gone = [];
}

-- The id of the mailbox after one. No id is given twice, so it serves as UIDVALIDITY (RFC 3501 §2.3.1.1).
abbrev pub next_id : ℕ → ℕ
next_id id = if id == last_mailbox then 0 else id + 1

-- with a mailbox that has the next id
abbrev pub with_mailbox : Mailbox → World → World
with_mailbox mailbox world = record world { mailboxes = world.mailboxes ++ mailbox ∷ []; next = next_id world.next }

-- whether no more mailbox can be made for a user
abbrev pub is_full_of_mailboxes : ℕ → World → Bool
is_full_of_mailboxes owner world = nat_le most_mailboxes (count_by (is_owned_by owner) world.mailboxes) || world.next == 0

abbrev pub create_refused : World → ℕ → List ℕ → Option Refusal
create_refused world owner name =
    first_refusal ((not (is_mailbox_name name), BadName)
    ∷ (is_some (mailbox_named owner name world.mailboxes), Exists)
    ∷ (is_full_of_mailboxes owner world, Full) ∷ [])

abbrev pub created : World → ℕ → List ℕ → World
created world owner name = with_mailbox (new_mailbox world.next owner name) world

abbrev pub is_selected : List ℕ → Option Mailbox → Bool
is_selected held None = false
is_selected held (Some mailbox) = is_among mailbox.head.id held

-- INBOX can't be deleted.
abbrev pub delete_refused : World → ℕ → List ℕ → List ℕ → Option Refusal
delete_refused world owner name held =
    first_refusal ((not (is_mailbox_name name) || is_inbox name, BadName)
    ∷ (not (is_some (mailbox_named owner name world.mailboxes)), Absent)
    ∷ (is_selected held (mailbox_named owner name world.mailboxes), InUse) ∷ [])

-- Mailboxes below it stay, and so does a subscription of its name.
abbrev pub deleted : World → ℕ → List ℕ → World
deleted world owner name = record world { mailboxes = filter (λ mailbox. not (is_named owner name mailbox)) world.mailboxes }

abbrev pub add_user_refused : World → List ℕ → Option Refusal
add_user_refused world name =
    first_refusal ((not (is_user_name name), BadName)
    ∷ (is_some (user_named name world.users), Exists)
    ∷ (nat_le most_users (length world.users) || world.next == 0, Full) ∷ [])

-- Users are numbered from 1 in the order in which they came.
abbrev pub new_user_id : World → ℕ
new_user_id world = length world.users + 1

abbrev pub with_user : World → List ℕ → List ℕ → World
with_user world name verifier =
    record (created world (new_user_id world) inbox) { users = world.users ++ record { id = new_user_id world; name = name; verifier = verifier } ∷ [] }
