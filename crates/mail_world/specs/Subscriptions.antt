-- Subscriptions: the names that a user keeps in a list of active ones (RFC 3501 §6.3.6, §6.3.7).
use Rattle.std.specs.Prelude.{ℕ, ◌&&◌, Bool, not, nat_le, ◌==◌, if◌then◌else◌, List, [], ◌∷◌, Option, is_some, count_by}
use Rattle.ordered_rows.specs.Listed.{row_at, with_row, without}
use Rattle.row_tables.specs.Keys.{owned_key, subscription_key}
use Rattle.mail_world.specs.Names.{is_mailbox_name}
use Rattle.mail_world.specs.Worlds.{World, mailbox_named}
use Rattle.mail_world.specs.Limits.{most_subscriptions}
use Rattle.mail_world.specs.Changes.{Refusal, BadName, Absent, Full, first_refusal}

abbrev pub is_subscribed : ℕ → List ℕ → World → Bool
is_subscribed owner name world = is_some (row_at subscription_key (owned_key owner name) world.subscriptions)

abbrev pub subscriptions_of : ℕ → World → ℕ
subscriptions_of owner world = count_by (λ subscription. subscription.owner == owner) world.subscriptions

-- A name to which the user is subscribed can be subscribed again.
abbrev pub subscribe_refused : World → ℕ → List ℕ → Option Refusal
subscribe_refused world owner name =
    first_refusal ((not (is_mailbox_name name), BadName)
    ∷ (not (is_some (mailbox_named owner name world.mailboxes)), Absent)
    ∷ (not (is_subscribed owner name world) && nat_le most_subscriptions (subscriptions_of owner world), Full) ∷ [])

abbrev pub subscribed : World → ℕ → List ℕ → World
subscribed world owner name =
    if is_subscribed owner name world then world
    else record world { subscriptions = with_row subscription_key (record { owner = owner; name = name }) world.subscriptions }

abbrev pub unsubscribe_refused : World → ℕ → List ℕ → Option Refusal
unsubscribe_refused world owner name =
    first_refusal ((not (is_mailbox_name name), BadName)
    ∷ (not (is_subscribed owner name world), Absent) ∷ [])

abbrev pub unsubscribed : World → ℕ → List ℕ → World
unsubscribed world owner name = record world { subscriptions = without subscription_key (owned_key owner name) world.subscriptions }
