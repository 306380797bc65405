-- A store stays legal as mailboxes are made and deleted, and as users come.
use Rattle.std.proofs.Common.{ℕ, zero, suc, ◌≡◌, ◌+◌, ◌<◌, ◌≤◌, ◌==◌, Bool, true, false, cond, not, List, [], ◌∷◌, ◌++◌, length, Option, Some, None, refl, sym, ap, subst, ◌∙◌, ◌⊎◌, inl, inr, ⊎_elim, arith, length-append}
use Rattle.std.specs.Prelude.{◌||◌, nat_eq, nat_le, IsSome, count_by}
use Rattle.std.specs.List.{find, filter, AllByRecursion, range_with_len}
use Rattle.std.specs.Option.{is_some, option_or}
use Rattle.std.specs.Cmp.Lexicographic.{pointwise}
use Rattle.std.proofs.lemmas.Bool.{true≢false, false≢true, eqb-true, eq-eqb, ne_eqb, leb-false, and_parts, and_right, or_parts}
use Rattle.std.proofs.lemmas.List.{map-append}
use Rattle.std.proofs.lemmas.List.Folds.{find-append}
use Rattle.std.proofs.lemmas.List.Sums.{length-filter}
use Rattle.std.proofs.lemmas.Option.{none-some, same_Some}
use Rattle.row_tables.specs.Names.{user_named, has_user_name}
use Rattle.row_tables.specs.declared.heads.User.{User}
use Rattle.mail_world.specs.Names.{inbox, is_inbox, is_mailbox_name, is_user_name}
use Rattle.mail_world.specs.Worlds.{World, Mailbox, user_at, mailbox_named, has_id, is_named, is_owned_by}
use Rattle.mail_world.specs.Limits.{most_users, most_mailboxes}
use Rattle.mail_world.specs.Changes.{BadName, Absent, Exists, InUse, Full}
use Rattle.mail_world.specs.Users.{new_mailbox, create_refused, created, is_full_of_mailboxes, delete_refused, deleted, is_selected, add_user_refused, new_user_id, with_user}
use Rattle.mail_world.specs.Legal.{IsLegal}
use Rattle.mail_world.proofs.Finding.{find-append_cases, find-append_first, find-filter_same}
use Rattle.mail_world.proofs.Ascending.{all-unmap, all_found, ascend-filter, listed, passes_all}
use Rattle.mail_world.proofs.Following.{found_in_all}
use Rattle.mail_world.proofs.Making.{same_itself, AreUsers, users_stay, made-legal, new-legal}
use Rattle.mail_world.proofs.Accepting.{not_refused}

pub none_there : {X : Type 0} (o : Option X) → is_some o ≡ false → o ≡ None
none_there None e = refl
none_there (Some x) e = absurd (true≢false e)

some_first : {X : Type 0} (o r : Option X) → IsSome o → IsSome (option_or o r)
some_first None r there = absurd (false≢true there)
some_first (Some x) r there = refl

some_second : {X : Type 0} (o r : Option X) → IsSome r → IsSome (option_or o r)
some_second None r there = there
some_second (Some x) r there = refl

pub has_room : (owner : ℕ) (world : World) → is_full_of_mailboxes owner world ≡ false → (count_by (is_owned_by owner) world.mailboxes < most_mailboxes) × ((world.next == 0) ≡ false)
has_room owner world room =
    let parts = or_parts (nat_le most_mailboxes (count_by (is_owned_by owner) world.mailboxes)) (world.next == 0) room in
    (leb-false most_mailboxes (count_by (is_owned_by owner) world.mailboxes) parts.0, parts.1)

-- an INBOX is found still where a mailbox is made
pub inboxes_stay : (world : World) → IsLegal world → (new : Mailbox) (user : ℕ) → IsSome (user_at user world.users) → IsSome (mailbox_named user inbox (world.mailboxes ++ new ∷ []))
inboxes_stay world legal new user there =
    ap is_some (find-append (is_named user inbox) world.mailboxes (new ∷ [])) ∙ some_first (mailbox_named user inbox world.mailboxes) _ (legal.inboxes user there)

pub create-stays : (world : World) (owner : ℕ) (name : List ℕ) → IsLegal world → IsSome (user_at owner world.users) → create_refused world owner name ≡ None → IsLegal (created world owner name)
create-stays world owner name legal there accepted =
    let first = not_refused (not (is_mailbox_name name)) BadName ((is_some (mailbox_named owner name world.mailboxes), Exists) ∷ (is_full_of_mailboxes owner world, Full) ∷ []) accepted in
    let second = not_refused (is_some (mailbox_named owner name world.mailboxes)) Exists ((is_full_of_mailboxes owner world, Full) ∷ []) first.1 in
    let third = not_refused (is_full_of_mailboxes owner world) Full [] second.1 in
    let room = has_room owner world third.0 in
    made-legal world world.users (new_mailbox world.next owner name) legal (users_stay world legal)
    (record { id = refl; next = room.1; owner = there; name = none_there (mailbox_named owner name world.mailboxes) second.0; room = room.0; itself = new-legal world.next owner name })
    (inboxes_stay world legal (new_mailbox world.next owner name))

-- Deletion.

kept_one : (p : Mailbox → Bool) (x m : Mailbox) (ys : List Mailbox) (b c : Bool) (r : Option Mailbox) → p x ≡ b → (Some x ≡ Some m → c ≡ true) → (r ≡ Some m → find p ys ≡ Some m)
    → cond b (Some x) r ≡ Some m → find p (cond c (x ∷ ys) ys) ≡ Some m
kept_one p x m ys true true r e kept rest found = rw e found
kept_one p x m ys false true r e kept rest found = rw e (rest found)
kept_one p x m ys false false r e kept rest found = rest found
kept_one p x m ys true false r e kept rest found = absurd (false≢true (kept found))

-- what is found and stays is found still
find-filter_kept : (p q : Mailbox → Bool) (xs : List Mailbox) (m : Mailbox) → find p xs ≡ Some m → q m ≡ true → find p (filter q xs) ≡ Some m
find-filter_kept p q [] m found kept = found
find-filter_kept p q (x ∷ xs) m found kept =
    kept_one p x m (filter q xs) (p x) (q x) (find p xs) refl (λ same. ap q (same_Some x m same) ∙ kept) (λ later. find-filter_kept p q xs m later kept) found

shorter : (p : Mailbox → Bool) (x : Mailbox) (xs ys : List Mailbox) (b c : Bool) → p x ≡ b → length (filter p ys) ≤ length (filter p xs) → length (filter p (cond c (x ∷ ys) ys)) ≤ length (cond b (x ∷ filter p xs) (filter p xs))
shorter p x xs ys true true e le = rw e (omega (arith, le))
shorter p x xs ys false true e le = rw e le
shorter p x xs ys true false e le = omega (arith, le)
shorter p x xs ys false false e le = le

fewer : (p q : Mailbox → Bool) (xs : List Mailbox) → length (filter p (filter q xs)) ≤ length (filter p xs)
fewer p q [] = omega arith
fewer p q (x ∷ xs) = shorter p x xs (filter q xs) (p x) (q x) refl (fewer p q xs)

pub count_fewer : (p q : Mailbox → Bool) (xs : List Mailbox) → count_by p (filter q xs) ≤ count_by p xs
count_fewer p q xs = omega (arith, fewer p q xs, length-filter p (filter q xs), length-filter p xs)

-- two names that the test doesn't tell apart
pub same_bytes : (a b : List ℕ) → pointwise nat_eq a b ≡ true → a ≡ b
same_bytes [] [] e = refl
same_bytes [] (y ∷ b) e = absurd (false≢true e)
same_bytes (x ∷ a) [] e = absurd (false≢true e)
same_bytes (x ∷ a) (y ∷ b) e = let parts = and_parts (x == y) (pointwise nat_eq a b) e in ap (λ n. n ∷ a) (eqb-true x y parts.0) ∙ ap (λ rest. y ∷ rest) (same_bytes a b parts.1)

no_inbox : (owner user : ℕ) (name : List ℕ) (m : Mailbox) → is_inbox name ≡ false → is_named user inbox m ≡ true → not (is_named owner name m) ≡ true
no_inbox owner user name m other here = by_name (is_named owner name m) refl
  where
    by_name : (b : Bool) → is_named owner name m ≡ b → not b ≡ true
    by_name false e = refl
    by_name true e =
        let its = same_bytes m.head.name inbox (and_parts (pointwise nat_eq m.head.name inbox) (m.head.owner == user) here).0 in
        let given = same_bytes m.head.name name (and_parts (pointwise nat_eq m.head.name name) (m.head.owner == owner) e).0 in
        absurd (true≢false (ap is_inbox (sym its) ∙ ap is_inbox given ∙ other))

pub delete-stays : (world : World) (owner : ℕ) (name : List ℕ) (held : List ℕ) → IsLegal world → delete_refused world owner name held ≡ None → IsLegal (deleted world owner name)
delete-stays world owner name held legal accepted = record {
  user_ids = legal.user_ids;
  user_names = legal.user_names;
  few_users = legal.few_users;
  mailbox_ids = ascend-filter (λ m. m.head.id) (λ m. not (is_named owner name m)) world.mailboxes legal.mailbox_ids;
  mailboxes = λ id m found.
      let was = legal.mailboxes id m (found_in_all (λ x. not (is_named owner name x)) id world.mailboxes m legal.mailbox_ids found) in
      record {
        from_one = was.from_one;
        below_next = was.below_next;
        owner = was.owner;
        named = find-filter_kept (is_named m.head.owner m.head.name) (λ x. not (is_named owner name x)) world.mailboxes m was.named
            (all_found (λ x. not (is_named owner name x) ≡ true) (has_id id) (filter (λ x. not (is_named owner name x)) world.mailboxes) m (passes_all (λ x. not (is_named owner name x)) world.mailboxes) found);
        itself = was.itself;
      };
  inboxes = λ user there. ap is_some (find-filter_same (is_named user inbox) (λ x. not (is_named owner name x)) (λ x here. no_inbox owner user name x not_inbox here) world.mailboxes) ∙ legal.inboxes user there;
  few_mailboxes = λ user. omega (arith, count_fewer (is_owned_by user) (λ x. not (is_named owner name x)) world.mailboxes, legal.few_mailboxes user);
  subscriptions = legal.subscriptions;
  subscribers = legal.subscribers;
  few_subscriptions = legal.few_subscriptions;
  next = legal.next;
}
  where
    not_inbox : is_inbox name ≡ false
    not_inbox =
        (or_parts (not (is_mailbox_name name)) (is_inbox name)
        (not_refused (not (is_mailbox_name name) || is_inbox name) BadName ((not (is_some (mailbox_named owner name world.mailboxes)), Absent) ∷ (is_selected held (mailbox_named owner name world.mailboxes), InUse) ∷ []) accepted).0).1

-- Users.

range_below : (a n : ℕ) → AllByRecursion (λ k. k < a + n) (range_with_len a n)
range_below a zero = tt
range_below a (suc n) = (omega arith, subst (λ top. AllByRecursion (λ k. k < top) (range_with_len (a + 1) n)) (omega arith) (range_below (a + 1) n))

range_more : (a n : ℕ) → range_with_len a n ++ (a + n) ∷ [] ≡ range_with_len a (suc n)
range_more a zero = ap (λ k. k ∷ []) (omega arith)
range_more a (suc n) = ap (λ rest. a ∷ rest) (ap (λ k. range_with_len (a + 1) n ++ k ∷ []) (omega arith) ∙ range_more (a + 1) n)

find_nothing : {X : Type 0} (p : X → Bool) (xs : List X) → AllByRecursion (λ x. p x ≡ false) xs → find p xs ≡ None
find_nothing p [] all = refl
find_nothing p (x ∷ xs) all = rw all.0 (find_nothing p xs all.1)

filter_nothing : {X : Type 0} (p : X → Bool) (xs : List X) → AllByRecursion (λ x. p x ≡ false) xs → filter p xs ≡ []
filter_nothing p [] all = refl
filter_nothing p (x ∷ xs) all = rw all.0 (filter_nothing p xs all.1)

weaker : {X : Type 0} (P Q : X → Type 0) → ((x : X) → P x → Q x) → (xs : List X) → AllByRecursion P xs → AllByRecursion Q xs
weaker P Q h [] all = tt
weaker P Q h (x ∷ xs) all = (h x all.0, weaker P Q h xs all.1)

no_such_user : (world : World) → IsLegal world → user_at (new_user_id world) world.users ≡ None
no_such_user world legal =
    find_nothing (λ u. u.id == new_user_id world) world.users
    (weaker (λ u. u.id < 1 + length world.users) (λ u. (u.id == new_user_id world) ≡ false) (λ u below. ne_eqb u.id (new_user_id world) (λ same. omega (arith, same, below))) world.users
    (all-unmap (λ k. k < 1 + length world.users) (λ u. u.id) world.users (subst (AllByRecursion (λ k. k < 1 + length world.users)) (sym legal.user_ids) (range_below 1 (length world.users)))))

-- no mailbox is a new user's yet
not_owned : (world : World) → IsLegal world → AllByRecursion (λ m. is_owned_by (new_user_id world) m ≡ false) world.mailboxes
not_owned world legal =
    listed (λ m. m.head.id) (λ m. is_owned_by (new_user_id world) m ≡ false) world.mailboxes legal.mailbox_ids
    (λ id m found. ne_eqb m.head.owner (new_user_id world) (λ same. false≢true (sym (ap is_some (no_such_user world legal)) ∙ (sym (ap (λ k. is_some (user_at k world.users)) same) ∙ (legal.mailboxes id m found).owner))))

abbrev new_user : World → List ℕ → List ℕ → User
new_user world name verifier = record { id = new_user_id world; name = name; verifier = verifier }

id_is : (world : World) → new_user_id world ≡ 1 + length world.users
id_is world = omega arith

one_longer : (users : List User) (user : User) → suc (length users) ≡ length (users ++ user ∷ [])
one_longer users user = omega (arith, length-append users (user ∷ []))

users_more : (world : World) (name verifier : List ℕ) → IsLegal world → user_named name world.users ≡ None → length world.users < most_users → AreUsers world (world.users ++ new_user world name verifier ∷ [])
users_more world name verifier legal none few = record {
  ids =
      map-append (λ u. u.id) world.users (new_user world name verifier ∷ [])
      ∙ ap (λ ids. ids ++ new_user_id world ∷ []) legal.user_ids
      ∙ ap (λ k. range_with_len 1 (length world.users) ++ k ∷ []) (id_is world)
      ∙ range_more 1 (length world.users)
      ∙ ap (range_with_len 1) (one_longer world.users (new_user world name verifier));
  names = λ id user found.
      ⊎_elim (λ old. find-append_first (has_user_name user.name) world.users (new_user world name verifier ∷ []) user (legal.user_names id user old))
      (λ only. subst (λ u. user_named u.name (world.users ++ new_user world name verifier ∷ []) ≡ Some u) (only_user id user only.1)
      (find-append (has_user_name name) world.users (new_user world name verifier ∷ []) ∙ rw none (rw (same_itself name) refl)))
      (find-append_cases (λ u. u.id == id) world.users (new_user world name verifier ∷ []) user found);
  few = omega (arith, length-append world.users (new_user world name verifier ∷ []), few);
  stay = λ id there. ap is_some (find-append (λ u. u.id == id) world.users (new_user world name verifier ∷ [])) ∙ some_first (user_at id world.users) _ there;
}
  where
    one : (user : User) (b : Bool) → cond b (Some (new_user world name verifier)) None ≡ Some user → new_user world name verifier ≡ user
    one user true e = same_Some _ user e
    one user false e = absurd (none-some user e)

    only_user : (id : ℕ) (user : User) → user_at id (new_user world name verifier ∷ []) ≡ Some user → new_user world name verifier ≡ user
    only_user id user found = one user (new_user_id world == id) found

-- of two places, the one where there is something
where_is : {X : Type 0} (o : Option X) (b : Bool) (x : X) → IsSome (option_or o (cond b (Some x) None)) → (IsSome o) ⊎ (b ≡ true)
where_is None true x there = inr refl
where_is None false x there = absurd (false≢true there)
where_is (Some y) b x there = inl refl

pub user-stays : (world : World) (name verifier : List ℕ) → IsLegal world → add_user_refused world name ≡ None → IsLegal (with_user world name verifier)
user-stays world name verifier legal accepted =
    let first = not_refused (not (is_user_name name)) BadName ((is_some (user_named name world.users), Exists) ∷ (nat_le most_users (length world.users) || world.next == 0, Full) ∷ []) accepted in
    let second = not_refused (is_some (user_named name world.users)) Exists ((nat_le most_users (length world.users) || world.next == 0, Full) ∷ []) first.1 in
    let third = not_refused (nat_le most_users (length world.users) || world.next == 0) Full [] second.1 in
    let room = or_parts (nat_le most_users (length world.users)) (world.next == 0) third.0 in
    made-legal world (world.users ++ new_user world name verifier ∷ []) new legal
    (users_more world name verifier legal (none_there (user_named name world.users) second.0) (leb-false most_users (length world.users) room.0))
    (record {
      id = refl;
      next = room.1;
      owner = ap is_some (find-append (λ u. u.id == new_user_id world) world.users (new_user world name verifier ∷ []))
          ∙ some_second (user_at (new_user_id world) world.users) _ (rw (eq-eqb (new_user_id world) (new_user_id world) refl) refl);
      name = find_nothing (is_named (new_user_id world) inbox) world.mailboxes
          (weaker (λ m. is_owned_by (new_user_id world) m ≡ false) (λ m. is_named (new_user_id world) inbox m ≡ false) (λ m e. and_right (pointwise nat_eq m.head.name inbox) (m.head.owner == new_user_id world) e) world.mailboxes (not_owned world legal));
      room = omega (arith, sym (length-filter (is_owned_by (new_user_id world)) world.mailboxes), ap length (filter_nothing (is_owned_by (new_user_id world)) world.mailboxes (not_owned world legal)));
      itself = new-legal world.next (new_user_id world) inbox;
    })
    (λ user there. ap is_some (find-append (is_named user inbox) world.mailboxes (new ∷ []))
    ∙ ⊎_elim (λ old. some_first (mailbox_named user inbox world.mailboxes) _ (legal.inboxes user old))
    (λ this. some_second (mailbox_named user inbox world.mailboxes) _ (rw this refl))
    (where_is (user_at user world.users) (new_user_id world == user) (new_user world name verifier) (sym (ap is_some (find-append (λ u. u.id == user) world.users (new_user world name verifier ∷ []))) ∙ there)))
  where
    new : Mailbox
    new = new_mailbox world.next (new_user_id world) inbox
