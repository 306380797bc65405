-- The names that LIST and LSUB look at (RFC 3501 §6.3.8, §6.3.9).
use Rattle.std.specs.Prelude.{ℕ, ◌==◌, Bool, true, false, List, map, filter}
use Rattle.mail_world.specs.Worlds.{World, is_owned_by}

-- The names of a user's mailboxes, or of the user's subscriptions, whose mailboxes may be gone.
abbrev pub names_of : Bool → ℕ → World → List (List ℕ)
names_of true user world = map (λ subscription. subscription.name) (filter (λ subscription. subscription.owner == user) world.subscriptions)
names_of false user world = map (λ mailbox. mailbox.head.name) (filter (is_owned_by user) world.mailboxes)
