-- A store stays legal as a mailbox is made, for a user who is there or comes with it.
use Rattle.std.proofs.Common.{ℕ, zero, suc, ◌≡◌, ◌≢◌, ◌+◌, ◌<◌, ◌≤◌, ◌==◌, Bool, true, false, cond, List, [], ◌∷◌, ◌++◌, map, length, Some, None, refl, sym, ap, subst, ◌∙◌, ⊎_elim, arith}
use Rattle.std.specs.Prelude.{nat_eq, IsSome, count_by}
use Rattle.std.specs.List.{find, range_with_len}
use Rattle.std.specs.Cmp.Lexicographic.{pointwise}
use Rattle.std.proofs.lemmas.Bool.{cond_both, eqb-true, eqb-false, eq-eqb, and_from, cases_order}
use Rattle.std.proofs.lemmas.List.{map-append}
use Rattle.std.proofs.lemmas.List.Folds.{find-append}
use Rattle.std.proofs.lemmas.List.Sums.{sum_by-append}
use Rattle.std.proofs.lemmas.Option.{none-some, same_Some}
use Rattle.row_tables.specs.Names.{user_named}
use Rattle.row_tables.specs.declared.heads.User.{User}
use Rattle.mail_world.specs.Names.{inbox}
use Rattle.mail_world.specs.Worlds.{World, Mailbox, user_at, mailbox_at, mailbox_named, has_id, is_named, is_owned_by}
use Rattle.mail_world.specs.Limits.{most_users, most_mailboxes, last_mailbox}
use Rattle.mail_world.specs.Users.{next_id, with_mailbox, new_mailbox}
use Rattle.mail_world.specs.Legal.{IsLegal, IsLegalIn, IsLegalMailbox, Ascend}
use Rattle.mail_world.proofs.Finding.{find-append_cases, find-append_first}
use Rattle.mail_world.proofs.Ascending.{all-weaker, all-map, all_found, ascend-append, listed, number_is}

pub same_itself : (name : List ℕ) → pointwise nat_eq name name ≡ true
same_itself [] = refl
same_itself (b ∷ bytes) = rw (eq-eqb b b refl) (same_itself bytes)

named_itself : (m : Mailbox) → is_named m.head.owner m.head.name m ≡ true
named_itself m = and_from _ _ (same_itself m.head.name) (eq-eqb m.head.owner m.head.owner refl)

-- In order of ids, a mailbox that is found is the one of its id.
pub found_at : (world : World) → IsLegal world → (p : Mailbox → Bool) (m : Mailbox) → find p world.mailboxes ≡ Some m → mailbox_at m.head.id world.mailboxes ≡ Some m
found_at world legal p m found =
    all_found (λ x. mailbox_at x.head.id world.mailboxes ≡ Some x) p world.mailboxes m
    (listed (λ x. x.head.id) (λ x. mailbox_at x.head.id world.mailboxes ≡ Some x) world.mailboxes legal.mailbox_ids
    (λ id x at. ap (λ k. mailbox_at k world.mailboxes) (number_is (λ y. y.head.id) id world.mailboxes x at) ∙ at)) found

-- users, with one more or as they are
pub record AreUsers (world : World) (users : List User) : Type 0 where
  pub ids : map (λ user. user.id) users ≡ range_with_len 1 (length users)
  pub names : (id : ℕ) (user : User) → user_at id users ≡ Some user → user_named user.name users ≡ Some user
  pub few : length users ≤ most_users
  pub stay : (id : ℕ) → IsSome (user_at id world.users) → IsSome (user_at id users)

pub users_stay : (world : World) → IsLegal world → AreUsers world world.users
users_stay world legal = record { ids = legal.user_ids; names = legal.user_names; few = legal.few_users; stay = λ id there. there }

pub next_above : (next : ℕ) → (next ≡ 0 → ⊥) → (next_id next ≢ 0) → next < next_id next
next_above next some = cond_both (next == last_mailbox) 0 (next + 1) (λ later. (later ≢ 0) → next < later) (λ e more. absurd (more refl)) (λ e more. omega arith)

next_few : (next : ℕ) → next ≤ last_mailbox → next_id next ≤ last_mailbox
next_few next few = cond_both (next == last_mailbox) 0 (next + 1) (λ later. later ≤ last_mailbox) (λ e. omega arith) (λ e. less next few (eqb-false next last_mailbox e))
  where
    less : (n : ℕ) → n ≤ last_mailbox → (n ≡ last_mailbox → ⊥) → n + 1 ≤ last_mailbox
    less n le ne = ⊎_elim (λ same. absurd (ne same)) (λ other. ⊎_elim (λ below. omega (arith, below)) (λ above. omega (arith, above, le)) other) (cases_order n last_mailbox)

pub record IsNew (world : World) (users : List User) (new : Mailbox) : Type 0 where
  pub id : new.head.id ≡ world.next
  pub next : (world.next == 0) ≡ false
  pub owner : IsSome (user_at new.head.owner users)
  pub name : mailbox_named new.head.owner new.head.name world.mailboxes ≡ None
  pub room : count_by (is_owned_by new.head.owner) world.mailboxes < most_mailboxes
  pub itself : IsLegalMailbox new

one_more : (p : Mailbox → Bool) (ms : List Mailbox) (new : Mailbox) → count_by p (ms ++ new ∷ []) ≡ count_by p ms + cond (p new) 1 0
one_more p ms new = sum_by-append (λ x. cond (p x) 1 0) ms (new ∷ []) ∙ omega arith

pub made-legal : (world : World) (users : List User) (new : Mailbox) → IsLegal world → AreUsers world users → IsNew world users new
    → ((user : ℕ) → IsSome (user_at user users) → IsSome (mailbox_named user inbox (world.mailboxes ++ new ∷ [])))
    → IsLegal (record (with_mailbox new world) { users = users })
made-legal world users new legal are fresh inboxes = record {
  user_ids = are.ids;
  user_names = are.names;
  few_users = are.few;
  mailbox_ids = subst Ascend (sym (map-append (λ m. m.head.id) world.mailboxes (new ∷ [])))
      (ascend-append world.next (map (λ m. m.head.id) world.mailboxes) (new.head.id ∷ []) legal.mailbox_ids (tt, tt)
      (all-map (λ k. k < world.next) (λ m. m.head.id) world.mailboxes
      (listed (λ m. m.head.id) (λ m. m.head.id < world.next) world.mailboxes legal.mailbox_ids (λ id m found. (legal.mailboxes id m found).below_next some_next)))
      (omega (arith, fresh.id), tt));
  mailboxes = λ id m found.
      ⊎_elim (λ old. stays id m old) (λ only. subst (IsLegalIn later) (only_one id m only.1) its_own)
      (find-append_cases (has_id id) world.mailboxes (new ∷ []) m found);
  inboxes = inboxes;
  few_mailboxes = λ user. omega (arith, one_more (is_owned_by user) world.mailboxes new, count_one user);
  subscriptions = legal.subscriptions;
  subscribers = all-weaker (λ s. IsSome (user_at s.owner world.users)) (λ s. IsSome (user_at s.owner users)) (λ s there. are.stay s.owner there) world.subscriptions legal.subscribers;
  few_subscriptions = legal.few_subscriptions;
  next = next_few world.next legal.next;
}
  where
    later : World
    later = record (with_mailbox new world) { users = users }

    some_next : world.next ≡ 0 → ⊥
    some_next none = eqb-false world.next 0 fresh.next none

    stays : (id : ℕ) (m : Mailbox) → mailbox_at id world.mailboxes ≡ Some m → IsLegalIn (record (with_mailbox new world) { users = users }) m
    stays id m found =
        let was = legal.mailboxes id m found in
        record {
          from_one = was.from_one;
          below_next = λ more. omega (arith, was.below_next some_next, next_above world.next some_next more);
          owner = are.stay m.head.owner was.owner;
          named = find-append_first (is_named m.head.owner m.head.name) world.mailboxes (new ∷ []) m was.named;
          itself = was.itself;
        }

    its_own : IsLegalIn (record (with_mailbox new world) { users = users }) new
    its_own = record {
      from_one = above_zero world.next fresh.id some_next;
      below_next = λ more. omega (arith, fresh.id, next_above world.next some_next more);
      owner = fresh.owner;
      named = find-append (is_named new.head.owner new.head.name) world.mailboxes (new ∷ []) ∙ rw fresh.name (rw (named_itself new) refl);
      itself = fresh.itself;
    }
      where
        above_zero : (next : ℕ) → new.head.id ≡ next → (next ≡ 0 → ⊥) → 1 ≤ new.head.id
        above_zero zero e some = absurd (some refl)
        above_zero (suc n) e some = omega (arith, e)

    only_one : (id : ℕ) (m : Mailbox) → mailbox_at id (new ∷ []) ≡ Some m → new ≡ m
    only_one id m found = cond_one (has_id id new) found
      where
        cond_one : (b : Bool) → cond b (Some new) None ≡ Some m → new ≡ m
        cond_one true e = same_Some new m e
        cond_one false e = absurd (none-some m e)

    count_one : (user : ℕ) → count_by (is_owned_by user) world.mailboxes + cond (is_owned_by user new) 1 0 ≤ most_mailboxes
    count_one user = by_owner (is_owned_by user new) refl
      where
        by_owner : (b : Bool) → is_owned_by user new ≡ b → count_by (is_owned_by user) world.mailboxes + cond b 1 0 ≤ most_mailboxes
        by_owner true e = subst (λ n. count_by (is_owned_by n) world.mailboxes + 1 ≤ most_mailboxes) (eqb-true new.head.owner user e) (omega (arith, fresh.room))
        by_owner false e = omega (arith, legal.few_mailboxes user)

pub new-legal : (id owner : ℕ) (name : List ℕ) → IsLegalMailbox (new_mailbox id owner name)
new-legal id owner name = record {
  uids = tt;
  gone_uids = tt;
  apart = λ uid there. refl;
  entries = λ uid entry found. absurd (none-some entry found);
  gone = λ uid pair found. absurd (none-some pair found);
  recent = (omega arith, omega arith);
  uidnext = omega arith;
  highest = omega arith;
  few = omega arith;
}
