-- A store stays legal as a mailbox and its inferiors are renamed.
use Rattle.std.proofs.Common.{ℕ, ◌≡◌, ◌==◌, Bool, true, false, cond, not, List, [], ◌∷◌, ◌++◌, map, length, take, drop, Option, Some, None, refl, sym, ap, subst, ◌∙◌, ⊎_elim, arith, append_assoc, append-nil}
use Rattle.std.specs.Prelude.{◌&&◌, nat_eq, nat_lt, IsSome}
use Rattle.std.specs.List.{find, list_any, AllByRecursion}
use Rattle.std.specs.Option.{is_some}
use Rattle.std.specs.Cmp.Lexicographic.{pointwise}
use Rattle.std.proofs.Math.Seq.{drop-append_seam}
use Rattle.std.proofs.lemmas.Bool.{true≢false, false≢true, cond_both, eqb-true, and_parts, and_right, and_from, eq-eqb, or_cases, or_left, or_right, false_from_ne_true}
use Rattle.std.proofs.lemmas.List.{take-append-drop}
use Rattle.std.proofs.lemmas.List.Folds.{list_any-append}
use Rattle.std.proofs.lemmas.Option.{none-some, same_Some}
use Rattle.mail_world.specs.Names.{inbox, is_inbox, same_name, separator, is_mailbox_name, is_inferior, is_renamed, longest_name}
use Rattle.mail_world.specs.Worlds.{World, Mailbox, user_at, mailbox_at, mailbox_named, has_id, is_named, is_owned_by}
use Rattle.mail_world.specs.Changes.{BadName, Absent, Exists}
use Rattle.mail_world.specs.Renaming.{moves, new_name, rename_refused, with_name, renamed}
use Rattle.mail_world.specs.Legal.{IsLegal, IsLegalIn, IsLegalMailbox, Ascend}
use Rattle.mail_world.proofs.Finding.{find_passes}
use Rattle.mail_world.proofs.Following.{step, step-at}
use Rattle.mail_world.proofs.Ascending.{listed, all_found}
use Rattle.mail_world.proofs.Keeping.{map_same, count_same, mapped}
use Rattle.mail_world.proofs.Growing.{given_more, legal_more}
use Rattle.mail_world.proofs.Lasting.{all_fail}
use Rattle.mail_world.proofs.Making.{same_itself}
use Rattle.mail_world.proofs.Coming.{same_bytes}
use Rattle.mail_world.proofs.Accepting.{not_refused}

-- Names.

cancel : (a b c : List ℕ) → a ++ b ≡ a ++ c → b ≡ c
cancel a b c e = sym (drop-append_seam a b) ∙ ap (drop (length a)) e ∙ drop-append_seam a c

-- a name with a front, and what is behind it
parted_by : (front name rest : List ℕ) → name ≡ front ++ rest → name ≡ front ++ drop (length front) name
parted_by front name rest e = e ∙ ap (λ end. front ++ end) (sym (drop-append_seam front rest) ∙ ap (drop (length front)) (sym e))

begins : (from name : List ℕ) → is_inferior from name ≡ true → from ++ separator ∷ [] ≡ take (length (from ++ separator ∷ [])) name
begins from name e = same_bytes (from ++ separator ∷ []) (take (length (from ++ separator ∷ [])) name) e

parted : (from name : List ℕ) → is_renamed from name ≡ true → name ≡ from ++ drop (length from) name
parted from name e =
    ⊎_elim (λ same. parted_by from name [] (same_bytes name from same ∙ sym (append-nil from)))
    (λ below. parted_by from name (separator ∷ drop (length (from ++ separator ∷ [])) name)
    (sym (take-append-drop (length (from ++ separator ∷ [])) name) ∙ ap (λ front. front ++ drop (length (from ++ separator ∷ [])) name) (sym (begins from name below)) ∙ append_assoc from (separator ∷ []) (drop (length (from ++ separator ∷ [])) name)))
    (or_cases (same_name name from) (is_inferior from name) e)

has_separator : (from name : List ℕ) → is_inferior from name ≡ true → list_any (λ b. b == separator) name ≡ true
has_separator from name e =
    ap (list_any (λ b. b == separator)) (sym (take-append-drop (length (from ++ separator ∷ [])) name))
    ∙ list_any-append (λ b. b == separator) (take (length (from ++ separator ∷ [])) name) (drop (length (from ++ separator ∷ [])) name)
    ∙ or_left _ _ (ap (list_any (λ b. b == separator)) (sym (begins from name e)) ∙ list_any-append (λ b. b == separator) from (separator ∷ []) ∙ or_right _ _ refl)

-- INBOX isn't renamed with another name.
inbox_stays : (from : List ℕ) → is_inbox from ≡ false → is_renamed from inbox ≡ false
inbox_stays from other = false_from_ne_true (is_renamed from inbox) (λ e.
    ⊎_elim (λ same. true≢false (ap is_inbox (same_bytes inbox from same) ∙ other)) (λ below. false≢true (has_separator from inbox below)) (or_cases (same_name inbox from) (is_inferior from inbox) e))

-- Mailboxes that are found by their new names.

here_or_there : (p q : Mailbox → Bool) (f : Mailbox → Mailbox) (x old : Mailbox) (r s : Option Mailbox) (b c : Bool) → p (f x) ≡ b → q x ≡ c → (b ≡ true → x ≡ old) → p (f old) ≡ true
    → (s ≡ Some old → r ≡ Some (f old)) → cond c (Some x) s ≡ Some old → cond b (Some (f x)) r ≡ Some (f old)
here_or_there p q f x old r s true c e h same passes rest found = ap (λ y. Some (f y)) (same refl)
here_or_there p q f x old r s false true e h same passes rest found = absurd (false≢true (sym e ∙ ap (λ y. p (f y)) (same_Some x old found) ∙ passes))
here_or_there p q f x old r s false false e h same passes rest found = rest found

find-unique : (p q : Mailbox → Bool) (f : Mailbox → Mailbox) (xs : List Mailbox) (old : Mailbox) → AllByRecursion (λ x. p (f x) ≡ true → x ≡ old) xs → find q xs ≡ Some old → p (f old) ≡ true
    → find p (map f xs) ≡ Some (f old)
find-unique p q f [] old all found passes = absurd (none-some old found)
find-unique p q f (x ∷ xs) old all found passes =
    here_or_there p q f x old (find p (map f xs)) (find q xs) (p (f x)) (q x) refl refl all.0 passes (λ later. find-unique p q f xs old all.1 later passes) found

one_is : (p q : Mailbox → Bool) (f : Mailbox → Mailbox) (x old : Mailbox) (r s : Option Mailbox) (b c : Bool) → p (f x) ≡ b → p (f old) ≡ true → (s ≡ Some old → IsSome r)
    → cond c (Some x) s ≡ Some old → IsSome (cond b (Some (f x)) r)
one_is p q f x old r s true c e passes rest found = refl
one_is p q f x old r s false true e passes rest found = absurd (false≢true (sym e ∙ ap (λ y. p (f y)) (same_Some x old found) ∙ passes))
one_is p q f x old r s false false e passes rest found = rest found

some_found : (p q : Mailbox → Bool) (f : Mailbox → Mailbox) (xs : List Mailbox) (old : Mailbox) → find q xs ≡ Some old → p (f old) ≡ true → IsSome (find p (map f xs))
some_found p q f [] old found passes = absurd (none-some old found)
some_found p q f (x ∷ xs) old found passes = one_is p q f x old (find p (map f xs)) (find q xs) (p (f x)) (q x) refl passes (λ later. some_found p q f xs old later passes) found

-- Renaming.

abbrev with_new : ℕ → List ℕ → List ℕ → Mailbox → Mailbox
with_new owner from to = step (moves owner from) (λ m. with_name (new_name from to m) m)

abbrev name_after : ℕ → List ℕ → List ℕ → Mailbox → List ℕ
name_after owner from to m = cond (moves owner from m) (new_name from to m) m.head.name

name_is : (owner : ℕ) (from to : List ℕ) (m : Mailbox) → (with_new owner from to m).head.name ≡ name_after owner from to m
name_is owner from to m = by_case (moves owner from m)
  where
    by_case : (b : Bool) → (cond b (with_name (new_name from to m) m) m).head.name ≡ cond b (new_name from to m) m.head.name
    by_case true = refl
    by_case false = refl

owner_is : (owner : ℕ) (from to : List ℕ) (m : Mailbox) → (with_new owner from to m).head.owner ≡ m.head.owner
owner_is owner from to m = cond_both (moves owner from m) (with_name (new_name from to m) m) m (λ n. n.head.owner ≡ m.head.owner) (λ e. refl) (λ e. refl)

id_is : (owner : ℕ) (from to : List ℕ) (m : Mailbox) → (with_new owner from to m).head.id ≡ m.head.id
id_is owner from to m = cond_both (moves owner from m) (with_name (new_name from to m) m) m (λ n. n.head.id ≡ m.head.id) (λ e. refl) (λ e. refl)

-- a mailbox that is there has its name to itself
record IsThere (world : World) (m : Mailbox) : Type 0 where
  named : mailbox_named m.head.owner m.head.name world.mailboxes ≡ Some m

same_title : (world : World) (x y : Mailbox) → IsThere world x → IsThere world y → x.head.owner ≡ y.head.owner → x.head.name ≡ y.head.name → x ≡ y
same_title world x y one other owner name =
    same_Some x y (sym one.named ∙ ap (λ n. mailbox_named n x.head.name world.mailboxes) owner ∙ ap (λ n. mailbox_named y.head.owner n world.mailboxes) name ∙ other.named)

-- no renamed mailbox gets a name that is there
abbrev AreFree : World → ℕ → List ℕ → List ℕ → Type 0
AreFree world owner from to = AllByRecursion (λ m. (moves owner from m && is_some (mailbox_named owner (new_name from to m) world.mailboxes)) ≡ false) world.mailboxes

taken_name : (world : World) (owner : ℕ) (from to : List ℕ) (x y : Mailbox) → (moves owner from x && is_some (mailbox_named owner (new_name from to x) world.mailboxes)) ≡ false → moves owner from x ≡ true
    → IsThere world y → x.head.owner ≡ y.head.owner → new_name from to x ≡ y.head.name → ⊥
taken_name world owner from to x y free moved there same name =
    let its = eqb-true x.head.owner owner (and_parts (x.head.owner == owner) (is_renamed from x.head.name) moved).0 in
    let found = ap (λ n. mailbox_named owner n world.mailboxes) name ∙ ap (λ n. mailbox_named n y.head.name world.mailboxes) (sym its ∙ same) ∙ there.named in
    true≢false (sym (and_from (moves owner from x) (is_some (mailbox_named owner (new_name from to x) world.mailboxes)) moved (ap is_some found)) ∙ free)

unique : (world : World) (owner : ℕ) (from to : List ℕ) (x y : Mailbox) → IsThere world x → IsThere world y
    → (moves owner from x && is_some (mailbox_named owner (new_name from to x) world.mailboxes)) ≡ false → (moves owner from y && is_some (mailbox_named owner (new_name from to y) world.mailboxes)) ≡ false
    → x.head.owner ≡ y.head.owner → (b c : Bool) → moves owner from x ≡ b → moves owner from y ≡ c → cond b (new_name from to x) x.head.name ≡ cond c (new_name from to y) y.head.name → x ≡ y
unique world owner from to x y one other free free_too same false false e f name = same_title world x y one other same name
unique world owner from to x y one other free free_too same true false e f name = absurd (taken_name world owner from to x y free e other same name)
unique world owner from to x y one other free free_too same false true e f name = absurd (taken_name world owner from to y x free_too f one (sym same) (sym name))
unique world owner from to x y one other free free_too same true true e f name =
    same_title world x y one other same
    (parted from x.head.name (and_parts (is_owned_by owner x) (is_renamed from x.head.name) e).1
    ∙ ap (λ rest. from ++ rest) (cancel to (drop (length from) x.head.name) (drop (length from) y.head.name) name)
    ∙ sym (parted from y.head.name (and_parts (is_owned_by owner y) (is_renamed from y.head.name) f).1))

name-legal : (name : List ℕ) (m : Mailbox) → IsLegalMailbox m → IsLegalMailbox (with_name name m)
name-legal name m legal = record {
  uids = legal.uids;
  gone_uids = legal.gone_uids;
  apart = legal.apart;
  entries = λ uid entry found. legal_more m (with_name name m) entry (omega arith) (omega arith) (legal.entries uid entry found);
  gone = λ uid pair found. given_more m (with_name name m) pair.uid pair.modseq (omega arith) (omega arith) (legal.gone uid pair found);
  recent = legal.recent;
  uidnext = legal.uidnext;
  highest = legal.highest;
  few = legal.few;
}

named_so : (world : World) → IsLegal world → (owner : ℕ) (from to : List ℕ) → AreFree world owner from to → (id : ℕ) (old : Mailbox) → mailbox_at id world.mailboxes ≡ Some old
    → mailbox_named (with_new owner from to old).head.owner (with_new owner from to old).head.name (map (with_new owner from to) world.mailboxes) ≡ Some (with_new owner from to old)
named_so world legal owner from to free id old at =
    find-unique (is_named (with_new owner from to old).head.owner (with_new owner from to old).head.name) (has_id id) (with_new owner from to) world.mailboxes old
    (listed (λ x. x.head.id) (λ x. is_named (with_new owner from to old).head.owner (with_new owner from to old).head.name (with_new owner from to x) ≡ true → x ≡ old) world.mailboxes legal.mailbox_ids
    (λ other x found same. one x (there other x found) (free_at other x found) (and_parts _ _ same)))
    at (and_from _ _ (same_itself (with_new owner from to old).head.name) (eq-eqb (with_new owner from to old).head.owner (with_new owner from to old).head.owner refl))
  where
    there : (other : ℕ) (x : Mailbox) → mailbox_at other world.mailboxes ≡ Some x → IsThere world x
    there other x found = record { named = (legal.mailboxes other x found).named }

    free_at : (other : ℕ) (x : Mailbox) → mailbox_at other world.mailboxes ≡ Some x → (moves owner from x && is_some (mailbox_named owner (new_name from to x) world.mailboxes)) ≡ false
    free_at other x found = all_found (λ m. (moves owner from m && is_some (mailbox_named owner (new_name from to m) world.mailboxes)) ≡ false) (has_id other) world.mailboxes x free found

    one : (x : Mailbox) → IsThere world x → (moves owner from x && is_some (mailbox_named owner (new_name from to x) world.mailboxes)) ≡ false
        → (pointwise nat_eq (with_new owner from to x).head.name (with_new owner from to old).head.name ≡ true) × (((with_new owner from to x).head.owner == (with_new owner from to old).head.owner) ≡ true) → x ≡ old
    one x here unused same =
        unique world owner from to x old here (there id old at) unused (free_at id old at)
        (sym (owner_is owner from to x) ∙ eqb-true _ _ same.1 ∙ owner_is owner from to old)
        (moves owner from x) (moves owner from old) refl refl
        (sym (name_is owner from to x) ∙ same_bytes _ _ same.0 ∙ name_is owner from to old)

inbox_found : (world : World) (owner : ℕ) (from to : List ℕ) (user : ℕ) → is_inbox from ≡ false → (o : Option Mailbox) → mailbox_named user inbox world.mailboxes ≡ o → IsSome o
    → IsSome (mailbox_named user inbox (map (with_new owner from to) world.mailboxes))
inbox_found world owner from to user other None found there = absurd (false≢true there)
inbox_found world owner from to user other (Some m) found there =
    let passes = find_passes (is_named user inbox) world.mailboxes m found in
    let name = same_bytes m.head.name inbox (and_parts (pointwise nat_eq m.head.name inbox) (m.head.owner == user) passes).0 in
    let stays = and_right (is_owned_by owner m) (is_renamed from m.head.name) (ap (is_renamed from) name ∙ inbox_stays from other) in
    some_found (is_named user inbox) (is_named user inbox) (with_new owner from to) world.mailboxes m found (ap (λ b. is_named user inbox (cond b (with_name (new_name from to m) m) m)) stays ∙ passes)

pub rename-stays : (world : World) (owner : ℕ) (from to : List ℕ) → IsLegal world → is_inbox from ≡ false → rename_refused world owner from to ≡ None → IsLegal (renamed world owner from to)
rename-stays world owner from to legal other accepted = record {
  user_ids = legal.user_ids;
  user_names = legal.user_names;
  few_users = legal.few_users;
  mailbox_ids = subst Ascend (sym (map_same (λ m. m.head.id) (with_new owner from to) (id_is owner from to) world.mailboxes)) legal.mailbox_ids;
  mailboxes = λ id m found.
      mapped (with_new owner from to) (mailbox_at id world.mailboxes) m (sym (step-at (moves owner from) (λ x. with_name (new_name from to x) x) (λ x. refl) id world.mailboxes) ∙ found)
      (λ old was is. subst (IsLegalIn (renamed world owner from to)) (sym is) (one id old was (legal.mailboxes id old was)));
  inboxes = λ user there. inbox_found world owner from to user other (mailbox_named user inbox world.mailboxes) refl (legal.inboxes user there);
  few_mailboxes = λ user. omega (arith, count_same (is_owned_by user) (with_new owner from to) (λ m. ap (λ n. n == user) (owner_is owner from to m)) world.mailboxes, legal.few_mailboxes user);
  subscriptions = legal.subscriptions;
  subscribers = legal.subscribers;
  few_subscriptions = legal.few_subscriptions;
  next = legal.next;
}
  where
    free : AreFree world owner from to
    free =
        let taken = list_any (λ m. moves owner from m && is_some (mailbox_named owner (new_name from to m) world.mailboxes)) world.mailboxes in
        let long = list_any (λ m. moves owner from m && nat_lt longest_name (length (new_name from to m))) world.mailboxes in
        let one = not_refused (not (is_mailbox_name to)) BadName ((not (is_some (mailbox_named owner from world.mailboxes)), Absent) ∷ (long, BadName) ∷ (taken, Exists) ∷ []) accepted in
        let two = not_refused (not (is_some (mailbox_named owner from world.mailboxes))) Absent ((long, BadName) ∷ (taken, Exists) ∷ []) one.1 in
        let three = not_refused long BadName ((taken, Exists) ∷ []) two.1 in
        all_fail (λ m. moves owner from m && is_some (mailbox_named owner (new_name from to m) world.mailboxes)) world.mailboxes (not_refused taken Exists [] three.1).0

    one : (id : ℕ) (old : Mailbox) → mailbox_at id world.mailboxes ≡ Some old → IsLegalIn world old → IsLegalIn (renamed world owner from to) (with_new owner from to old)
    one id old at was = record {
      from_one = omega (arith, id_is owner from to old, was.from_one);
      below_next = λ more. omega (arith, id_is owner from to old, was.below_next more);
      owner = ap (λ n. is_some (user_at n world.users)) (owner_is owner from to old) ∙ was.owner;
      named = named_so world legal owner from to free id old at;
      itself = cond_both (moves owner from old) (with_name (new_name from to old) old) old IsLegalMailbox (λ e. name-legal (new_name from to old) old was.itself) (λ e. was.itself);
    }
