-- A store stays legal as names are subscribed and unsubscribed.
use Rattle.std.proofs.Common.{ℕ, ◌≡◌, ◌+◌, ◌<◌, ◌≤◌, ◌==◌, Bool, true, false, cond, not, List, [], ◌∷◌, length, Option, Some, None, refl, sym, subst, ◌∙◌, arith}
use Rattle.std.specs.Prelude.{◌&&◌, nat_le, IsSome, count_by}
use Rattle.std.specs.List.{filter}
use Rattle.std.specs.Option.{is_some}
use Rattle.std.proofs.lemmas.Bool.{true≢false, cond_both, eqb-true, leb-false, and_parts}
use Rattle.std.proofs.lemmas.List.Filters.{sum_by-filter_both}
use Rattle.std.proofs.lemmas.List.Kept.{IsStrictlySortedBy-filter}
use Rattle.std.proofs.lemmas.List.Sums.{sum_by-append, length-filter}
use Rattle.ordered_rows.specs.InsertLaws.{InsertLaws}
use Rattle.ordered_rows.specs.Listed.{row_at, row_cmp, with_row, without, is_below, has_key}
use Rattle.row_tables.specs.Keys.{owned_key, subscription_key}
use Rattle.row_tables.specs.declared.heads.Subscription.{Subscription}
use Rattle.mail_world.specs.Names.{is_mailbox_name}
use Rattle.mail_world.specs.Worlds.{World, Mailbox, user_at, mailbox_named, is_named}
use Rattle.mail_world.specs.Limits.{most_subscriptions}
use Rattle.mail_world.specs.Changes.{BadName, Absent, Full}
use Rattle.mail_world.specs.Subscriptions.{is_subscribed, subscriptions_of, subscribe_refused, subscribed, unsubscribed}
use Rattle.mail_world.specs.Legal.{IsLegal}
use Rattle.mail_world.proofs.Finding.{find_passes}
use Rattle.mail_world.proofs.Ascending.{all-append, all-filter}
use Rattle.mail_world.proofs.Making.{found_at}
use Rattle.mail_world.proofs.Coming.{none_there}
use Rattle.mail_world.proofs.Accepting.{not_refused}

abbrev is_of : ℕ → Subscription → Bool
is_of user s = s.owner == user

with_row-count : (user : ℕ) (row : Subscription) (rows : List Subscription) → count_by (is_of user) (with_row subscription_key row rows) ≡ count_by (is_of user) rows + cond (is_of user row) 1 0
with_row-count user row rows =
    sum_by-append (λ s. cond (is_of user s) 1 0) (filter (is_below subscription_key (subscription_key row)) rows) (row ∷ filter (λ r. not (is_below subscription_key (subscription_key row) r)) rows)
    ∙ joined _ _ _ _ (sum_by-append (λ s. cond (is_of user s) 1 0) (row ∷ []) (filter (λ r. not (is_below subscription_key (subscription_key row) r)) rows))
    (sum_by-filter_both (is_below subscription_key (subscription_key row)) (λ r. not (is_below subscription_key (subscription_key row) r)) (λ r. refl) (λ s. cond (is_of user s) 1 0) rows)
  where
    joined : (a b c d : ℕ) → b ≡ 0 + cond (is_of user row) 1 0 + c → a + c ≡ d → a + b ≡ d + cond (is_of user row) 1 0
    joined a b c d e f = omega (arith, e, f)

owner_there : (world : World) → IsLegal world → (owner : ℕ) (name : List ℕ) (o : Option Mailbox) → mailbox_named owner name world.mailboxes ≡ o → IsSome o → IsSome (user_at owner world.users)
owner_there world legal owner name None found there = absurd (true≢false (sym there))
owner_there world legal owner name (Some m) found there =
    subst (λ n. IsSome (user_at n world.users)) (eqb-true m.head.owner owner (and_parts _ (m.head.owner == owner) (find_passes (is_named owner name) world.mailboxes m found)).1)
    (legal.mailboxes m.head.id m (found_at world legal (is_named owner name) m found)).owner

new_one : InsertLaws subscription_key → (world : World) (owner : ℕ) (name : List ℕ) → IsLegal world → IsSome (user_at owner world.users) → is_subscribed owner name world ≡ false → subscriptions_of owner world < most_subscriptions
    → IsLegal (record world { subscriptions = with_row subscription_key (record { owner = owner; name = name }) world.subscriptions })
new_one laws world owner name legal there new few = record {
  user_ids = legal.user_ids;
  user_names = legal.user_names;
  few_users = legal.few_users;
  mailbox_ids = legal.mailbox_ids;
  mailboxes = λ id m found.
      let was = legal.mailboxes id m found in
      record { from_one = was.from_one; below_next = was.below_next; owner = was.owner; named = was.named; itself = was.itself };
  inboxes = legal.inboxes;
  few_mailboxes = legal.few_mailboxes;
  subscriptions = laws.order row world.subscriptions legal.subscriptions (none_there (row_at subscription_key (owned_key owner name) world.subscriptions) new);
  subscribers = all-append (λ s. IsSome (user_at s.owner world.users)) (filter (is_below subscription_key (subscription_key row)) world.subscriptions) (row ∷ filter (λ r. not (is_below subscription_key (subscription_key row) r)) world.subscriptions)
      (all-filter (λ s. IsSome (user_at s.owner world.users)) (is_below subscription_key (subscription_key row)) world.subscriptions legal.subscribers)
      (there, all-filter (λ s. IsSome (user_at s.owner world.users)) (λ r. not (is_below subscription_key (subscription_key row) r)) world.subscriptions legal.subscribers);
  few_subscriptions = λ user. omega (arith, with_row-count user row world.subscriptions, count_one user (is_of user row) refl);
  next = legal.next;
}
  where
    row : Subscription
    row = record { owner = owner; name = name }

    count_one : (user : ℕ) (b : Bool) → (owner == user) ≡ b → count_by (is_of user) world.subscriptions + cond b 1 0 ≤ most_subscriptions
    count_one user true e = subst (λ n. count_by (is_of n) world.subscriptions + 1 ≤ most_subscriptions) (eqb-true owner user e) (omega (arith, few))
    count_one user false e = omega (arith, legal.few_subscriptions user)

limited : (a b : Bool) → a ≡ false → (not a && b) ≡ false → b ≡ false
limited false b e none = none
limited true b e none = absurd (true≢false e)

there_at_last : (o : Option Mailbox) → not (is_some o) ≡ false → IsSome o
there_at_last None e = absurd (true≢false e)
there_at_last (Some m) e = refl

pub subscribe-stays : InsertLaws subscription_key → (world : World) (owner : ℕ) (name : List ℕ) → IsLegal world → subscribe_refused world owner name ≡ None → IsLegal (subscribed world owner name)
subscribe-stays laws world owner name legal accepted =
    let first = not_refused (not (is_mailbox_name name)) BadName ((not (is_some (mailbox_named owner name world.mailboxes)), Absent) ∷ (not (is_subscribed owner name world) && nat_le most_subscriptions (subscriptions_of owner world), Full) ∷ []) accepted in
    let second = not_refused (not (is_some (mailbox_named owner name world.mailboxes))) Absent ((not (is_subscribed owner name world) && nat_le most_subscriptions (subscriptions_of owner world), Full) ∷ []) first.1 in
    let third = not_refused (not (is_subscribed owner name world) && nat_le most_subscriptions (subscriptions_of owner world)) Full [] second.1 in
    cond_both (is_subscribed owner name world) world (record world { subscriptions = with_row subscription_key (record { owner = owner; name = name }) world.subscriptions }) IsLegal (λ e. legal)
    (λ e. new_one laws world owner name legal (owner_there world legal owner name (mailbox_named owner name world.mailboxes) refl (there_at_last (mailbox_named owner name world.mailboxes) second.0)) e
    (leb-false most_subscriptions (subscriptions_of owner world) (limited (is_subscribed owner name world) _ e third.0)))

shorter : (p : Subscription → Bool) (x : Subscription) (xs ys : List Subscription) (b c : Bool) → p x ≡ b → length (filter p ys) ≤ length (filter p xs) → length (filter p (cond c (x ∷ ys) ys)) ≤ length (cond b (x ∷ filter p xs) (filter p xs))
shorter p x xs ys true true e le = rw e (omega (arith, le))
shorter p x xs ys false true e le = rw e le
shorter p x xs ys true false e le = omega (arith, le)
shorter p x xs ys false false e le = le

fewer : (p q : Subscription → Bool) (xs : List Subscription) → length (filter p (filter q xs)) ≤ length (filter p xs)
fewer p q [] = omega arith
fewer p q (x ∷ xs) = shorter p x xs (filter q xs) (p x) (q x) refl (fewer p q xs)

pub unsubscribe-stays : (world : World) (owner : ℕ) (name : List ℕ) → IsLegal world → IsLegal (unsubscribed world owner name)
unsubscribe-stays world owner name legal = record {
  user_ids = legal.user_ids;
  user_names = legal.user_names;
  few_users = legal.few_users;
  mailbox_ids = legal.mailbox_ids;
  mailboxes = λ id m found.
      let was = legal.mailboxes id m found in
      record { from_one = was.from_one; below_next = was.below_next; owner = was.owner; named = was.named; itself = was.itself };
  inboxes = legal.inboxes;
  few_mailboxes = legal.few_mailboxes;
  subscriptions = IsStrictlySortedBy-filter (row_cmp subscription_key) (λ r. not (has_key subscription_key (owned_key owner name) r)) world.subscriptions legal.subscriptions;
  subscribers = all-filter (λ s. IsSome (user_at s.owner world.users)) (λ r. not (has_key subscription_key (owned_key owner name) r)) world.subscriptions legal.subscribers;
  few_subscriptions = λ user. omega (
    arith,
    fewer (is_of user) (λ r. not (has_key subscription_key (owned_key owner name) r)) world.subscriptions,
    length-filter (is_of user) (without subscription_key (owned_key owner name) world.subscriptions),
    length-filter (is_of user) world.subscriptions,
    legal.few_subscriptions user,
  );
  next = legal.next;
}
