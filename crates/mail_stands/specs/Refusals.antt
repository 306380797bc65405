-- Why a change is not made, as the tables tell it: the first reason of several, in the order of those of the world.
use Rattle.std.specs.Prelude.{ℕ, ◌==◌, ◌&&◌, ◌||◌, Bool, false, not, nat_le, List, [], ◌∷◌, length, filter, Option, Some, None, is_some}
use Rattle.ordered_rows.specs.RowKey.{number_key}
use Rattle.ordered_rows.specs.Listed.{row_at}
use Rattle.row_tables.specs.Keys.{owned_key, mailbox_key, subscription_key}
use Rattle.row_tables.specs.Names.{user_named, mailbox_named}
use Rattle.row_tables.specs.References.{subscriptions_of}
use Rattle.row_tables.specs.TableRows.{TableRows}
use Rattle.row_tables.specs.declared.heads.Mailbox.{Mailbox}
use Rattle.mail_world.specs.Names.{is_inbox, is_mailbox_name, is_user_name}
use Rattle.mail_world.specs.Worlds.{is_among}
use Rattle.mail_world.specs.Limits.{most_users, most_mailboxes, most_subscriptions}
use Rattle.mail_world.specs.Changes.{Refusal, BadName, Absent, Exists, InUse, Full, first_refusal}

abbrev pub add_user_refused : TableRows → List ℕ → Option Refusal
add_user_refused t name =
    first_refusal ((not (is_user_name name), BadName)
    ∷ (is_some (user_named name t.heads.users), Exists)
    ∷ (nat_le most_users (length t.heads.users) || t.heads.counters.next == 0, Full) ∷ [])

-- the mailboxes of a user
abbrev pub mailboxes_of : ℕ → List Mailbox → List Mailbox
mailboxes_of owner rows = filter (λ r. r.owner == owner) rows

-- of a name as CREATE makes it
abbrev pub create_refused : TableRows → ℕ → List ℕ → Option Refusal
create_refused t owner name =
    first_refusal ((not (is_mailbox_name name), BadName)
    ∷ (is_some (mailbox_named owner name t.heads.mailboxes), Exists)
    ∷ (nat_le most_mailboxes (length (mailboxes_of owner t.heads.mailboxes)) || t.heads.counters.next == 0, Full) ∷ [])

abbrev pub is_held : List ℕ → Option Mailbox → Bool
is_held held None = false
is_held held (Some row) = is_among row.id held

-- of the name of a mailbox, where sessions have those of `held` selected
abbrev pub delete_refused : TableRows → ℕ → List ℕ → List ℕ → Option Refusal
delete_refused t owner name held =
    first_refusal ((not (is_mailbox_name name) || is_inbox name, BadName)
    ∷ (not (is_some (mailbox_named owner name t.heads.mailboxes)), Absent)
    ∷ (is_held held (mailbox_named owner name t.heads.mailboxes), InUse) ∷ [])

abbrev pub is_subscribed : TableRows → ℕ → List ℕ → Bool
is_subscribed t owner name = is_some (row_at subscription_key (owned_key owner name) t.heads.subscriptions)

abbrev pub subscribe_refused : TableRows → ℕ → List ℕ → Option Refusal
subscribe_refused t owner name =
    first_refusal ((not (is_mailbox_name name), BadName)
    ∷ (not (is_some (mailbox_named owner name t.heads.mailboxes)), Absent)
    ∷ (not (is_subscribed t owner name) && nat_le most_subscriptions (length (subscriptions_of owner t.heads.subscriptions)), Full) ∷ [])

abbrev pub unsubscribe_refused : TableRows → ℕ → List ℕ → Option Refusal
unsubscribe_refused t owner name =
    first_refusal ((not (is_mailbox_name name), BadName)
    ∷ (not (is_subscribed t owner name), Absent) ∷ [])

-- why nothing can be done in a mailbox, where it is there
abbrev pub unless_absent : Option Mailbox → (Mailbox → Option Refusal) → Option Refusal
unless_absent None reason = Some Absent
unless_absent (Some row) reason = reason row

abbrev pub refused_by : TableRows → ℕ → (Mailbox → Option Refusal) → Option Refusal
refused_by t id reason = unless_absent (row_at mailbox_key (number_key id) t.heads.mailboxes) reason

abbrev pub recents_refused : TableRows → ℕ → Option Refusal
recents_refused t id = refused_by t id (λ row. None)
