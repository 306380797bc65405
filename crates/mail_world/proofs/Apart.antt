-- A change leaves the parts of all users but those whom it touches.
use Rattle.std.proofs.Common.{ℕ, ◌≡◌, ◌<◌, ◌==◌, Bool, true, false, cond, not, List, [], ◌∷◌, ◌++◌, map, Option, Some, None, refl, sym, ap, ◌∙◌, ◌⊎◌, inl, inr, arith, append-nil}
use Rattle.std.specs.Prelude.{◌&&◌}
use Rattle.std.specs.List.{filter, list_any}
use Rattle.std.specs.Option.{option_or}
use Rattle.std.specs.Ordering.{is_lt}
use Rattle.std.proofs.lemmas.Bool.{true≢false, eqb-true, eqb-false, ne_eqb, lt-ltb, le-ltb, cond_both, and_parts, and_left, and_right, or_parts, cases_order}
use Rattle.std.proofs.lemmas.List.Elements.{filter-append}
use Rattle.std.proofs.lemmas.List.Folds.{find-append}
use Rattle.ordered_rows.specs.RowKey.{key_cmp}
use Rattle.ordered_rows.specs.Listed.{with_row, is_below, has_key}
use Rattle.row_tables.specs.Keys.{owned_key, subscription_key}
use Rattle.row_tables.specs.declared.heads.User.{User}
use Rattle.row_tables.specs.declared.heads.Subscription.{Subscription}
use Rattle.mail_world.specs.Names.{inbox, is_inbox, mailbox_name, created_name, same_name, is_renamed}
use Rattle.mail_world.specs.Flags.{distinct}
use Rattle.mail_world.specs.Worlds.{World, Mailbox, Message, own, user_at, mailbox_named, has_id, is_named, is_owned_by, is_among}
use Rattle.mail_world.specs.Changes.{Change, AddUser, Create, Delete, Rename, Subscribe, Unsubscribe, Append, Deliver, Copy, StoreFlags, Expunge, TakeRecents}
use Rattle.mail_world.specs.Users.{new_user_id, new_mailbox}
use Rattle.mail_world.specs.Subscriptions.{is_subscribed, subscribed, unsubscribed}
use Rattle.mail_world.specs.Arrivals.{with_changed, with_messages, takes_mail, copied, has_no_room, has_no_uids}
use Rattle.mail_world.specs.Storing.{with_stored, without_messages, without_recents}
use Rattle.mail_world.specs.Renaming.{moves, new_name, with_name, renamed, inbox_renamed, with_inbox_moved, moved_inbox}
use Rattle.mail_world.specs.Applying.{apply}
use Rattle.mail_world.specs.Laws.{touches}
use Rattle.mail_world.proofs.Finding.{find_passes}
use Rattle.mail_world.proofs.Following.{step, left_owner, stored_owner}

-- Filters.

filtered : {X : Type 0} (p : X → Bool) (x : X) (ys zs : List X) (b c : Bool) → p x ≡ b → (b ≡ true → c ≡ true) → filter p ys ≡ zs → filter p (cond c (x ∷ ys) ys) ≡ cond b (x ∷ zs) zs
filtered p x ys zs b true e h i = rw e (ap (λ rest. cond b (x ∷ rest) rest) i)
filtered p x ys zs false false e h i = i
filtered p x ys zs true false e h i = absurd (true≢false (sym (h refl)))

pub filter-filter_same : {X : Type 0} (p q : X → Bool) → ((x : X) → p x ≡ true → q x ≡ true) → (xs : List X) → filter p (filter q xs) ≡ filter p xs
filter-filter_same p q h [] = refl
filter-filter_same p q h (x ∷ xs) = filtered p x (filter q xs) (filter p xs) (p x) (q x) refl (h x) (filter-filter_same p q h xs)

left_out : {X : Type 0} (p : X → Bool) (x : X) (ys : List X) (b c : Bool) → p x ≡ b → (b ≡ true → c ≡ false) → filter p ys ≡ [] → filter p (cond c (x ∷ ys) ys) ≡ []
left_out p x ys b false e h i = i
left_out p x ys false true e h i = rw e i
left_out p x ys true true e h i = absurd (true≢false (h refl))

pub filter-filter_none : {X : Type 0} (p q : X → Bool) → ((x : X) → p x ≡ true → q x ≡ false) → (xs : List X) → filter p (filter q xs) ≡ []
filter-filter_none p q h [] = refl
filter-filter_none p q h (x ∷ xs) = left_out p x (filter q xs) (p x) (q x) refl (h x) (filter-filter_none p q h xs)

-- one mailbox of a list, of which some are changed
unchanged : (p : Mailbox → Bool) (f : Mailbox → Mailbox) (x : Mailbox) (ys zs : List Mailbox) (w b : Bool) → p x ≡ b → p (f x) ≡ p x → (w && b) ≡ false → filter p ys ≡ filter p zs
    → filter p (cond w (f x) x ∷ ys) ≡ filter p (x ∷ zs)
unchanged p f x ys zs false b e keeps none same = ap (λ rest. cond (p x) (x ∷ rest) rest) same
unchanged p f x ys zs true false e keeps none same = rw (keeps ∙ e) (rw e same)
unchanged p f x ys zs true true e keeps none same = absurd (true≢false none)

filter-step : (p which : Mailbox → Bool) (f : Mailbox → Mailbox) → ((x : Mailbox) → p (f x) ≡ p x) → (xs : List Mailbox) → list_any (λ x. which x && p x) xs ≡ false
    → filter p (map (step which f) xs) ≡ filter p xs
filter-step p which f keeps [] none = refl
filter-step p which f keeps (x ∷ xs) none =
    let parts = or_parts (which x && p x) (list_any (λ y. which y && p y) xs) none in
    unchanged p f x (map (step which f) xs) xs (which x) (p x) refl (keeps x) parts.0 (filter-step p which f keeps xs parts.1)

no_any : {X : Type 0} (p : X → Bool) → ((x : X) → p x ≡ false) → (xs : List X) → list_any p xs ≡ false
no_any p h [] = refl
no_any p h (x ∷ xs) = rw (h x) (no_any p h xs)

-- a test that fails where another passes
never_both : (a b : Bool) → (b ≡ true → a ≡ false) → (a && b) ≡ false
never_both false b h = refl
never_both true false h = refl
never_both true true h = h refl

second_fails : (a b c d : Bool) → b ≡ false → (a && b && c && d) ≡ false
second_fails false b c d e = refl
second_fails true b c d e = rw e refl

-- Parts.

own_same : (a b : World) (user : ℕ) → user_at user a.users ≡ user_at user b.users → filter (is_owned_by user) a.mailboxes ≡ filter (is_owned_by user) b.mailboxes
    → filter (λ s. s.owner == user) a.subscriptions ≡ filter (λ s. s.owner == user) b.subscriptions → own a user ≡ own b user
unfolding own
own_same a b user users mailboxes subscriptions = rw users (rw mailboxes (rw subscriptions refl))

-- two users
flip : (a b : ℕ) → (a == b) ≡ false → (b == a) ≡ false
flip a b e = ne_eqb b a (λ same. eqb-false a b e (sym same))

other_than : (user owner n : ℕ) → (user == owner) ≡ false → (n == user) ≡ true → (n == owner) ≡ false
other_than user owner n e here = ne_eqb n owner (λ same. eqb-false user owner e (sym (eqb-true n user here) ∙ same))

changed-apart : (world : World) (user : ℕ) (which : Mailbox → Bool) (f : Mailbox → Mailbox) → ((m : Mailbox) → (f m).head.owner ≡ m.head.owner)
    → list_any (λ m. which m && is_owned_by user m) world.mailboxes ≡ false → own (with_changed which f world) user ≡ own world user
changed-apart world user which f keeps none =
    own_same (with_changed which f world) world user refl (filter-step (is_owned_by user) which f (λ m. ap (λ n. n == user) (keeps m)) world.mailboxes none) refl

pub more_owner : (taken : Bool) (messages : List Message) (m : Mailbox) → (with_messages taken messages m).head.owner ≡ m.head.owner
more_owner taken [] m = refl
more_owner taken (message ∷ messages) m = refl

-- with a mailbox of another user
filter-last : (user : ℕ) (ms : List Mailbox) (new : Mailbox) → (new.head.owner == user) ≡ false → filter (is_owned_by user) (ms ++ new ∷ []) ≡ filter (is_owned_by user) ms
filter-last user ms new e = filter-append (is_owned_by user) ms (new ∷ []) ∙ rw e (append-nil (filter (is_owned_by user) ms))

or_none : {X : Type 0} (o : Option X) → option_or o None ≡ o
or_none None = refl
or_none (Some x) = refl

find-last : (user : ℕ) (users : List User) (new : User) → (new.id == user) ≡ false → user_at user (users ++ new ∷ []) ≡ user_at user users
find-last user users new e = find-append (λ u. u.id == user) users (new ∷ []) ∙ rw e (or_none (user_at user users))

-- Subscriptions.

below : (a b : ℕ) (x y : List ℕ) → a < b → is_lt (key_cmp (owned_key a x) (owned_key b y)) ≡ true
below a b x y h = rw (lt-ltb a b h) refl

not_below : (a b : ℕ) (x y : List ℕ) → b < a → is_lt (key_cmp (owned_key a x) (owned_key b y)) ≡ false
not_below a b x y h = rw (le-ltb a b (omega (arith, h))) (rw (ne_eqb a b (λ same. omega (arith, h, same))) refl)

abbrev is_of : ℕ → Subscription → Bool
is_of user s = s.owner == user

filter-with_row : (user : ℕ) (row : Subscription) (rows : List Subscription) → (row.owner == user) ≡ false → ((row.owner ≡ user) ⊎ ((row.owner < user) ⊎ (user < row.owner)))
    → filter (is_of user) (with_row subscription_key row rows) ≡ filter (is_of user) rows
filter-with_row user row rows e (inl same) = absurd (eqb-false row.owner user e same)
filter-with_row user row rows e (inr (inl less)) =
    filter-append (is_of user) (filter (is_below subscription_key (subscription_key row)) rows) (row ∷ filter (λ r. not (is_below subscription_key (subscription_key row) r)) rows)
    ∙ rw e (rw (filter-filter_none (is_of user) (is_below subscription_key (subscription_key row)) (λ s here. not_below s.owner row.owner s.name row.name (omega (arith, less, eqb-true s.owner user here))) rows)
    (filter-filter_same (is_of user) (λ r. not (is_below subscription_key (subscription_key row) r)) (λ s here. ap not (not_below s.owner row.owner s.name row.name (omega (arith, less, eqb-true s.owner user here)))) rows))
filter-with_row user row rows e (inr (inr less)) =
    filter-append (is_of user) (filter (is_below subscription_key (subscription_key row)) rows) (row ∷ filter (λ r. not (is_below subscription_key (subscription_key row) r)) rows)
    ∙ rw e (rw (filter-filter_same (is_of user) (is_below subscription_key (subscription_key row)) (λ s here. below s.owner row.owner s.name row.name (omega (arith, less, eqb-true s.owner user here))) rows)
    (rw (filter-filter_none (is_of user) (λ r. not (is_below subscription_key (subscription_key row) r)) (λ s here. ap not (below s.owner row.owner s.name row.name (omega (arith, less, eqb-true s.owner user here)))) rows)
    (append-nil (filter (is_of user) rows))))

subscribed-apart : (world : World) (user owner : ℕ) (name : List ℕ) → (user == owner) ≡ false → own (subscribed world owner name) user ≡ own world user
subscribed-apart world user owner name e =
    cond_both (is_subscribed owner name world) world _ (λ w. own w user ≡ own world user) (λ h. refl)
    (λ h. own_same _ world user refl refl (filter-with_row user (record { owner = owner; name = name }) world.subscriptions (flip user owner e) (cases_order owner user)))

unsubscribed-apart : (world : World) (user owner : ℕ) (name : List ℕ) → (user == owner) ≡ false → own (unsubscribed world owner name) user ≡ own world user
unsubscribed-apart world user owner name e =
    own_same _ world user refl refl (filter-filter_same (is_of user) (λ s. not (has_key subscription_key (owned_key owner name) s))
    (λ s here. ap not (and_right _ (s.owner == owner) (other_than user owner s.owner e here))) world.subscriptions)

-- Renaming.

renamed-apart : (world : World) (user owner : ℕ) (from to : List ℕ) → (user == owner) ≡ false → own (renamed world owner from to) user ≡ own world user
renamed-apart world user owner from to e =
    changed-apart world user (moves owner from) (λ m. with_name (new_name from to m) m) (λ m. refl)
    (no_any (λ m. moves owner from m && is_owned_by user m)
    (λ m. never_both (moves owner from m) (is_owned_by user m) (λ here. and_left (is_owned_by owner m) (is_renamed from m.head.name) (other_than user owner m.head.owner e here))) world.mailboxes)

moved-apart : (world : World) (user owner : ℕ) (to : List ℕ) → (user == owner) ≡ false → (source : Option Mailbox) → mailbox_named owner inbox world.mailboxes ≡ source
    → own (with_inbox_moved source world owner to) user ≡ own world user
moved-apart world user owner to e None found = refl
moved-apart world user owner to e (Some source) found =
    own_same _ world user refl
    (filter-last user (map (step (is_named owner inbox) (without_messages (λ uid. true))) world.mailboxes) (moved_inbox world.next to source)
    (moved_owner (map (λ entry. entry.message) source.entries)
    (flip user source.head.owner (ne_eqb user source.head.owner (λ same. eqb-false user owner e (same ∙ eqb-true source.head.owner owner (and_parts (same_name source.head.name inbox) (source.head.owner == owner) (find_passes (is_named owner inbox) world.mailboxes source found)).1)))))
    ∙ filter-step (is_owned_by user) (is_named owner inbox) (without_messages (λ uid. true)) (λ m. ap (λ n. n == user) (left_owner (λ uid. true) m)) world.mailboxes
    (no_any (λ m. is_named owner inbox m && is_owned_by user m)
    (λ m. never_both (is_named owner inbox m) (is_owned_by user m) (λ here. and_right (same_name m.head.name inbox) (m.head.owner == owner) (other_than user owner m.head.owner e here))) world.mailboxes))
    refl
  where
    moved_owner : (messages : List Message) → (source.head.owner == user) ≡ false → ((with_messages false messages (new_mailbox world.next source.head.owner to)).head.owner == user) ≡ false
    moved_owner messages h = ap (λ n. n == user) (more_owner false messages (new_mailbox world.next source.head.owner to)) ∙ h

pub all-apart : (world : World) (change : Change) (user : ℕ) → touches world change user ≡ false → own (apply world change) user ≡ own world user
unfolding apply touches
all-apart world (AddUser name verifier) user e =
    own_same _ world user (find-last user world.users (record { id = new_user_id world; name = name; verifier = verifier }) (flip user (new_user_id world) e))
    (filter-last user world.mailboxes (new_mailbox world.next (new_user_id world) inbox) (flip user (new_user_id world) e)) refl
all-apart world (Create owner name) user e = own_same _ world user refl (filter-last user world.mailboxes (new_mailbox world.next owner (created_name name)) (flip user owner e)) refl
all-apart world (Delete owner name held) user e =
    own_same _ world user refl
    (filter-filter_same (is_owned_by user) (λ m. not (is_named owner (mailbox_name name) m))
    (λ m here. ap not (and_right (same_name m.head.name (mailbox_name name)) (m.head.owner == owner) (other_than user owner m.head.owner e here))) world.mailboxes) refl
all-apart world (Rename owner from to) user e =
    cond_both (is_inbox from) (inbox_renamed world owner (mailbox_name to)) (renamed world owner from (mailbox_name to)) (λ w. own w user ≡ own world user)
    (λ h. moved-apart world user owner (mailbox_name to) e (mailbox_named owner inbox world.mailboxes) refl)
    (λ h. renamed-apart world user owner from (mailbox_name to) e)
all-apart world (Subscribe owner name) user e = subscribed-apart world user owner (mailbox_name name) e
all-apart world (Unsubscribe owner name) user e = unsubscribed-apart world user owner (mailbox_name name) e
all-apart world (Append mailbox flags date mail taken) user e =
    changed-apart world user (has_id mailbox) (with_messages taken (record { flags = distinct flags; date = date; mail = mail } ∷ [])) (more_owner taken (record { flags = distinct flags; date = date; mail = mail } ∷ [])) e
all-apart world (Deliver users mail date taken) user e =
    changed-apart world user (takes_mail users) (λ m. with_messages (is_among m.head.id taken) (record { flags = []; date = date; mail = mail } ∷ []) m)
    (λ m. more_owner (is_among m.head.id taken) (record { flags = []; date = date; mail = mail } ∷ []) m)
    (no_any (λ m. takes_mail users m && is_owned_by user m) (λ m. never_both (takes_mail users m) (is_owned_by user m) (λ here. not_theirs m (eqb-true m.head.owner user here))) world.mailboxes)
  where
    not_theirs : (m : Mailbox) → m.head.owner ≡ user → takes_mail users m ≡ false
    not_theirs m same = second_fails (same_name m.head.name inbox) (is_among m.head.owner users) (not (has_no_room 1 m)) (not (has_no_uids 1 m)) (ap (λ n. is_among n users) same ∙ e)
all-apart world (Copy mailbox uids target taken) user e =
    changed-apart world user (has_id target) (with_messages taken (copied world mailbox uids)) (more_owner taken (copied world mailbox uids)) e
all-apart world (StoreFlags mailbox uids how flags) user e = changed-apart world user (has_id mailbox) (with_stored uids how flags) (stored_owner uids how flags) e
all-apart world (Expunge mailbox uids) user e = changed-apart world user (has_id mailbox) (without_messages (λ uid. is_among uid uids)) (left_owner (λ uid. is_among uid uids)) e
all-apart world (TakeRecents mailbox) user e = changed-apart world user (has_id mailbox) without_recents (λ m. refl) e
