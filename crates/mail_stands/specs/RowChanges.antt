-- The changes of rows that make a change of the world.
use Rattle.std.specs.Prelude.{ℕ, ◌+◌, List, [], ◌∷◌, length, if◌then◌else◌}
use Rattle.row_tables.specs.TableRows.{TableRows}
use Rattle.row_tables.specs.declared.heads.User.{User}
use Rattle.row_tables.specs.declared.heads.Mailbox.{Mailbox}
use Rattle.row_tables.specs.declared.change.RowChange.{RowChange}
use Rattle.row_tables.specs.declared.change.RowChange.TheVariants.{InsertUser, InsertMailbox, UpdateMailbox, DropMailbox, InsertSubscription, RemoveSubscription, UpdateCounters}
use Rattle.mail_world.specs.Names.{inbox}
use Rattle.mail_world.specs.Users.{next_id}
use Rattle.mail_stands.specs.Refusals.{is_subscribed}

-- a mailbox as it is made, with the next id
abbrev pub new_mailbox : TableRows → ℕ → List ℕ → Mailbox
new_mailbox t owner name = record { id = t.heads.counters.next; owner = owner; name = name; uidnext = 1; first_recent = 1; highest = 1 }

-- a mailbox of a user with a name is made
abbrev pub create_changes : TableRows → ℕ → List ℕ → List RowChange
create_changes t owner name = InsertMailbox (new_mailbox t owner name) ∷ UpdateCounters (record { next = next_id t.heads.counters.next }) ∷ []

abbrev pub new_user : TableRows → List ℕ → List ℕ → User
new_user t name verifier = record { id = length t.heads.users + 1; name = name; verifier = verifier }

-- A user is added, and the user's INBOX with it.
abbrev pub add_user_changes : TableRows → List ℕ → List ℕ → List RowChange
add_user_changes t name verifier = InsertUser (new_user t name verifier) ∷ create_changes t (length t.heads.users + 1) inbox

-- a mailbox goes, and its messages
abbrev pub delete_changes : Mailbox → List RowChange
delete_changes row = DropMailbox row.id ∷ []

abbrev pub subscribe_changes : TableRows → ℕ → List ℕ → List RowChange
subscribe_changes t owner name = if is_subscribed t owner name then [] else InsertSubscription (record { owner = owner; name = name }) ∷ []

abbrev pub unsubscribe_changes : ℕ → List ℕ → List RowChange
unsubscribe_changes owner name = RemoveSubscription (owner, name) ∷ []

-- no message of a mailbox is recent any more
abbrev pub recents_changes : Mailbox → List RowChange
recents_changes row = UpdateMailbox (record row { first_recent = row.uidnext }) ∷ []
