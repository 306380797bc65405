-- Worked examples: the rows that calls make, and what tables refuse.
use Rattle.std.specs.Prelude.{ℕ, ◌≡◌, pos, true, false, List, [], ◌∷◌, map, fold, codes, Some, None, refl}
use Rattle.row_tables.specs.TableRows.{TableRows, no_rows}
use Rattle.row_tables.specs.Fits.{applied}
use Rattle.row_tables.specs.declared.heads.Mailbox.{Mailbox}
use Rattle.row_tables.specs.declared.change.RowChange.{RowChange}
use Rattle.mail_world.specs.Names.{is_mailbox_name, is_user_name}
use Rattle.mail_world.specs.Worlds.{World, no_world}
use Rattle.mail_world.specs.Changes.{AddUser, BadName, Absent, Exists, Full}
use Rattle.mail_world.specs.Applying.{apply}
use Rattle.mail_stands.specs.Flagging.{is_flagged}
use Rattle.mail_stands.specs.Refusals.{add_user_refused, create_refused, delete_refused, recents_refused}
use Rattle.mail_stands.specs.RowChanges.{add_user_changes, create_changes, delete_changes, recents_changes}
use Rattle.mail_stands.specs.Arriving.{arrival_changes}

abbrev after : TableRows → List RowChange → TableRows
after t changes = fold applied t changes

abbrev with_alice : TableRows
with_alice = after no_rows (add_user_changes no_rows (codes "alice") (7 ∷ []))

abbrev with_bob : TableRows
with_bob = after with_alice (add_user_changes with_alice (codes "bob") (8 ∷ []))

abbrev inbox_row : ℕ → Mailbox
inbox_row n = record { id = n; owner = n; name = codes "INBOX"; uidnext = 1; first_recent = 1; highest = 1 }

-- the rows of two users, with their INBOXes
two_users : with_bob.heads ≡ record {
  users = record { id = 1; name = codes "alice"; verifier = 7 ∷ [] } ∷ record { id = 2; name = codes "bob"; verifier = 8 ∷ [] } ∷ [];
  mailboxes = inbox_row 1 ∷ inbox_row 2 ∷ [];
  subscriptions = [];
  counters = record { next = 3 };
}
two_users = refl

-- and the store that has them
abbrev bob_world : World
bob_world = apply (apply no_world (AddUser (codes "alice") (7 ∷ []))) (AddUser (codes "bob") (8 ∷ []))

users_of_both : (with_bob.heads.users ≡ bob_world.users) × (with_bob.heads.mailboxes ≡ map (λ m. m.head) bob_world.mailboxes) × (with_bob.heads.counters.next ≡ bob_world.next)
unfolding apply
users_of_both = (refl, refl, refl)

-- the last id of a mailbox is given, and none after it
abbrev at_last : TableRows
at_last = record with_bob { heads = record with_bob.heads { counters = record { next = 4294967295 } } }

last_id : ((after at_last (create_changes at_last 1 (codes "a"))).heads.counters.next ≡ 0) × (create_refused (after at_last (create_changes at_last 1 (codes "a"))) 1 (codes "b") ≡ Some Full)
unfolding is_mailbox_name
last_id = (refl, refl)

-- refusals, in their order
tells : (add_user_refused with_bob (codes "alice") ≡ Some Exists) × (add_user_refused with_bob (codes "Alice") ≡ Some BadName) × (add_user_refused with_bob (codes "carl") ≡ None)
    × (create_refused with_bob 1 (codes "INBOX") ≡ Some Exists) × (create_refused with_bob 1 (codes "a//b") ≡ Some BadName) × (create_refused with_bob 1 (codes "a") ≡ None)
    × (delete_refused with_bob 1 (codes "INBOX") [] ≡ Some BadName) × (delete_refused with_bob 1 (codes "a") [] ≡ Some Absent) × (recents_refused with_bob 3 ≡ Some Absent)
unfolding is_user_name is_mailbox_name
tells = (refl, refl, refl, refl, refl, refl, refl, refl, refl)

-- A message comes into a mailbox with a flag, and is recent; then its recents are taken, and then the mailbox goes.
abbrev with_flag_name : TableRows
with_flag_name = record with_bob { marks = record with_bob.marks { flag_names = record { id = 4; name = codes "\\Seen" } ∷ [] } }

abbrev with_message : TableRows
with_message = after with_flag_name (arrival_changes (inbox_row 2) 9 (record { seconds = pos 100; zone = pos 60 }) (4 ∷ []) false)

one_message : (with_message.marks ≡ record {
  mailbox_messages = record { mailbox = 2; uid = 1; message = 9; modseq = 2; seconds = pos 100; zone = pos 60 } ∷ [];
  deleted_messages = [];
  flag_names = record { id = 4; name = codes "\\Seen" } ∷ [];
  flags = record { mailbox = 2; uid = 1; flag = 4 } ∷ [];
}) × (with_message.heads.mailboxes ≡ inbox_row 1 ∷ record { id = 2; owner = 2; name = codes "INBOX"; uidnext = 2; first_recent = 1; highest = 2 } ∷ [])
one_message = (refl, refl)

is_seen : (is_flagged 2 1 (codes "\\Seen") with_message.marks.flag_names with_message.marks.flags ≡ true) × (is_flagged 1 1 (codes "\\Seen") with_message.marks.flag_names with_message.marks.flags ≡ false)
    × (is_flagged 2 1 (codes "\\Draft") with_message.marks.flag_names with_message.marks.flags ≡ false)
is_seen = (refl, refl, refl)

no_recents : (after with_message (recents_changes (record { id = 2; owner = 2; name = codes "INBOX"; uidnext = 2; first_recent = 1; highest = 2 }))).heads.mailboxes
    ≡ inbox_row 1 ∷ record { id = 2; owner = 2; name = codes "INBOX"; uidnext = 2; first_recent = 2; highest = 2 } ∷ []
no_recents = refl

no_mailbox : ((after with_message (delete_changes (inbox_row 2))).heads.mailboxes ≡ inbox_row 1 ∷ []) × ((after with_message (delete_changes (inbox_row 2))).marks.mailbox_messages ≡ [])
    × ((after with_message (delete_changes (inbox_row 2))).marks.flags ≡ []) × (delete_refused with_message 2 (codes "INBOX") (2 ∷ []) ≡ Some BadName)
unfolding is_mailbox_name
no_mailbox = (refl, refl, refl, refl)
