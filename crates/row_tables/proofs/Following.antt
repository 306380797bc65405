-- The name that comes next after another.
use Rattle.std.proofs.Common.{◌≡◌, ℕ, Bool, true, false, not, cond, ◌&&◌, ◌==◌, nat_eq, List, [], ◌∷◌, map, Option, Some, None, refl, sym, ap, ◌∙◌, subst}
use mathlib.Core.Bool.{true≢false}
use borrow.Author.Tests.{eqb-true, eq-eqb}
use Rattle.std.specs.declared.cmp.Ordering.{Ordering}
use Rattle.std.specs.declared.cmp.Ordering.TheVariants.{Less, Equal, Greater}
use Rattle.std.specs.Ordering.{is_lt, nat_cmp, ordering_reverse, ordering_then}
use Rattle.std.specs.Cmp.{tied_itself, nat_cmp_total, first_so, second_so}
use Rattle.std.specs.Cmp.Lexicographic.{pointwise, bytes_decides, nat_list_cmp_total, slice_cmp}
use Rattle.std.specs.List.{AllByRecursion, filter, find}
use Rattle.std.specs.List.Sorted.{IsStrictlySortedBy}
use Rattle.ordered_rows.specs.RowKey.{RowKey, key_cmp}
use Rattle.ordered_rows.specs.Listed.{IsInOrder, is_from, row_cmp}
use Rattle.row_tables.specs.Indexes.{same_bytes}
use Rattle.row_tables.specs.Keys.{after_key, subscription_key}
use Rattle.row_tables.specs.Names.{AreNamed, IsNextMailbox, has_mailbox_name, is_after, mailbox_is_after, mailbox_naming, mailbox_named, name_entry_key, name_key, subscription_is_after}
use Rattle.row_tables.specs.declared.heads.Mailbox.{Mailbox}
use Rattle.row_tables.specs.declared.heads.Subscription.{Subscription}
use Rattle.row_tables.specs.declared.indexes.NameEntry.{NameEntry}
use Rattle.row_tables.proofs.NameChanges.{found_passes}
use Rattle.row_tables.proofs.NameEntries.{is_here, here_name, here_number}

-- ---- what a test finds

-- what one test finds another can't miss, where the one that is found passes it
not_missed : {X : Type 0} (g h : X → Bool) (xs : List X) (x : X) → find g xs ≡ Some x → h x ≡ true → filter h xs ≡ [] → ⊥
not_missed g h [] x e p none = cc
not_missed {X} g h (y ∷ ys) x e p none = by (g y) (h y) refl refl e none (λ a b. not_missed g h ys x a p b)
  where
    by : (a b : Bool) → g y ≡ a → h y ≡ b → cond a (Some y) (find g ys) ≡ Some x → cond b (y ∷ filter h ys) (filter h ys) ≡ [] → (find g ys ≡ Some x → filter h ys ≡ [] → ⊥) → ⊥
    by a true q r s t rest = cc
    by true false q r s t rest = let same : y ≡ x = cc in true≢false (sym (subst (λ z. h z ≡ true) (sym same) p) ∙ r)
    by false false q r s t rest = rest s t

-- where nothing is found, a narrower test finds nothing
none_within : {X : Type 0} (g h : X → Bool) → ((x : X) → h x ≡ true → g x ≡ true) → (xs : List X) → find g xs ≡ None → filter h xs ≡ []
none_within g h sub [] e = refl
none_within {X} g h sub (y ∷ ys) e = by (g y) (h y) refl refl e (λ a. none_within g h sub ys a)
  where
    by : (a b : Bool) → g y ≡ a → h y ≡ b → cond a (Some y) (find g ys) ≡ None → (find g ys ≡ None → filter h ys ≡ []) → cond b (y ∷ filter h ys) (filter h ys) ≡ []
    by true b q r s rest = cc
    by false true q r s rest = absurd (true≢false (sym (sub y r) ∙ q))
    by false false q r s rest = rest s

no_filtered : {X : Type 0} (h : X → Bool) (xs : List X) → find h xs ≡ None → filter h xs ≡ []
no_filtered h xs e = none_within h h (λ x q. q) xs e

no_images : {X : Type 0} (f : X → ℕ) (xs : List X) → map f xs ≡ [] → xs ≡ []
no_images f [] e = refl
no_images f (x ∷ xs) e = cc

-- ---- keys and names

-- the key after a name is above those with the name and below those with greater ones
below_after : (n : ℕ) (name t : List ℕ) (i : ℕ) → is_lt (key_cmp (name_key n t i) (after_key n name)) ≡ not (is_after name t)
below_after n name t i =
    ap (λ r. is_lt (ordering_then (ordering_then (ordering_then (ordering_then (ordering_then r (slice_cmp nat_cmp t name)) Equal) Equal) Less) (nat_cmp i 0))) (tied_itself nat_cmp_total n)
    ∙ by (slice_cmp nat_cmp t name) ∙ ap (λ r. not (is_lt r)) (sym (nat_list_cmp_total.antisymm name t))
  where
    by : (r : Ordering) → is_lt (ordering_then (ordering_then (ordering_then (ordering_then (ordering_then Equal r) Equal) Equal) Less) (nat_cmp i 0)) ≡ not (is_lt (ordering_reverse r))
    by Less = refl
    by Equal = refl
    by Greater = refl

twice_not : (b : Bool) → not (not b) ≡ b
twice_not true = refl
twice_not false = refl

turned_and : (a b : Bool) → (a && b) ≡ (b && a)
turned_and true true = refl
turned_and true false = refl
turned_and false true = refl
turned_and false false = refl

-- a row of the owner from that key on has a name that comes after
from_is_after : {X : Type 0} (key : X → RowKey) (owner : ℕ) (name : List ℕ) (x : X) (n : ℕ) (t : List ℕ) (i : ℕ) → key x ≡ name_key n t i → is_from key (after_key owner name) x ≡ (is_after name t && (n == owner))
from_is_after key owner name x n t i is =
    ap (λ (k : RowKey). not (is_lt (key_cmp k (after_key owner name))) && (k.number == owner)) is ∙ by (n == owner) refl
  where
    by : (b : Bool) → (n == owner) ≡ b → (not (is_lt (key_cmp (name_key n t i) (after_key owner name))) && b) ≡ (is_after name t && b)
    by true e =
        ap (λ m. not (is_lt (key_cmp (name_key m t i) (after_key owner name))) && true) (eqb-true n owner e) ∙ ap (λ c. not c && true) (below_after owner name t i) ∙ ap (λ c. c && true) (twice_not (is_after name t))
    by false e = turned_and (not (is_lt (key_cmp (name_key n t i) (after_key owner name)))) false ∙ turned_and false (is_after name t)

-- ---- the next subscription

same_tests : {X : Type 0} (g h : X → Bool) → ((x : X) → g x ≡ h x) → (xs : List X) → find g xs ≡ find h xs
same_tests g h e [] = refl
same_tests g h e (x ∷ xs) = ap (λ b. cond b (Some x) (find g xs)) (e x) ∙ ap (cond (h x) (Some x)) (same_tests g h e xs)

pub next_subscription : (owner : ℕ) (name : List ℕ) (rows : List Subscription) → find (is_from subscription_key (after_key owner name)) rows ≡ find (subscription_is_after owner name) rows
next_subscription owner name rows = same_tests (is_from subscription_key (after_key owner name)) (subscription_is_after owner name) (λ r. from_is_after subscription_key owner name r r.owner r.name 0 refl) rows

-- ---- the next mailbox

module _ (owner : ℕ) (name : List ℕ) (entries : List NameEntry) (rows : List Mailbox) (order : IsInOrder name_entry_key entries) (are : AreNamed mailbox_naming entries rows) where
  abbrev from : NameEntry → Bool
  from = is_from name_entry_key (after_key owner name)

  from_is : (e : NameEntry) → from e ≡ (is_after name e.name && (e.number == owner))
  from_is e = from_is_after name_entry_key owner name e e.number e.name e.id refl

  -- entries of a name that comes after are among those
  here_from : (t : List ℕ) → is_after name t ≡ true → (e : NameEntry) → is_here owner t e ≡ true → from e ≡ true
  here_from t after e here =
      from_is e ∙ ap (λ s. is_after name s && (e.number == owner)) (here_name owner t e here) ∙ ap (λ b. b && (e.number == owner)) after ∙ eq-eqb e.number owner (here_number owner t e here)

  -- a mailbox is in the index, and an entry is of a mailbox
  no_mailbox : (t : List ℕ) → filter (is_here owner t) entries ≡ [] → filter (has_mailbox_name owner t) rows ≡ []
  no_mailbox t none = no_images (λ (r : Mailbox). r.id) (filter (has_mailbox_name owner t) rows) (sym (are.each (owner, t)) ∙ ap (map (λ (e : NameEntry). e.id)) none)

  no_entry : (t : List ℕ) → filter (has_mailbox_name owner t) rows ≡ [] → filter (is_here owner t) entries ≡ []
  no_entry t none = no_images (λ (e : NameEntry). e.id) (filter (is_here owner t) entries) (are.each (owner, t) ∙ ap (map (λ (r : Mailbox). r.id)) none)

  has_own_name : (r : Mailbox) → (r.owner == owner) ≡ true → has_mailbox_name owner r.name r ≡ true
  has_own_name r e = ap (λ b. b && (r.owner == owner)) (same_bytes r.name) ∙ e

  pub next_none : find from entries ≡ None → find (mailbox_is_after owner name) rows ≡ None
  next_none none = by (find (mailbox_is_after owner name) rows) refl
    where
      by : (o : Option Mailbox) → find (mailbox_is_after owner name) rows ≡ o → o ≡ None
      by None e = refl
      by (Some r) e =
          let passes = found_passes (mailbox_is_after owner name) rows r e in
          let after = first_so (is_after name r.name) (r.owner == owner) passes in
          let own = second_so (is_after name r.name) (r.owner == owner) passes in
          absurd (not_missed (mailbox_is_after owner name) (has_mailbox_name owner r.name) rows r e (has_own_name r own) (no_mailbox r.name (none_within from (is_here owner r.name) (here_from r.name after) entries none)))

  -- no entry stands between
  not_behind : (e : NameEntry) (t : List ℕ) → (e.number == owner) ≡ true → is_after t e.name ≡ true → (y : NameEntry) → is_here owner t y ≡ true → row_cmp name_entry_key e y ≡ Less → ⊥
  not_behind e t own less y here below =
      let at : name_entry_key y ≡ name_key e.number t y.id = ap (λ n. name_key n y.name y.id) (here_number owner t y here ∙ sym (eqb-true e.number owner own)) ∙ ap (λ s. name_key e.number s y.id) (here_name owner t y here) in
      true≢false (sym (ap is_lt below) ∙ ap (λ k. is_lt (key_cmp (name_entry_key e) k)) at ∙ ap (λ r. is_lt (ordering_then (ordering_then (ordering_then (ordering_then (ordering_then r (slice_cmp nat_cmp e.name t)) Equal) Equal) Equal) (nat_cmp e.id y.id))) (tied_itself nat_cmp_total e.number)
      ∙ ap (λ r. is_lt (ordering_then (ordering_then (ordering_then (ordering_then (ordering_then Equal r) Equal) Equal) Equal) (nat_cmp e.id y.id))) (nat_list_cmp_total.antisymm e.name t) ∙ by (slice_cmp nat_cmp t e.name) less)
    where
      by : (r : Ordering) → is_lt r ≡ true → is_lt (ordering_then (ordering_then (ordering_then (ordering_then (ordering_then Equal (ordering_reverse r)) Equal) Equal) Equal) (nat_cmp e.id y.id)) ≡ false
      by Less h = refl
      by Equal h = absurd (true≢false (sym h))
      by Greater h = absurd (true≢false (sym h))

  none_between : (e : NameEntry) (t : List ℕ) → (e.number == owner) ≡ true → is_after name t ≡ true → is_after t e.name ≡ true → (xs : List NameEntry) → IsInOrder name_entry_key xs → find from xs ≡ Some e → filter (is_here owner t) xs ≡ []
  unfolding IsStrictlySortedBy
  none_between e t own after less [] s found = cc
  none_between e t own after less (x ∷ xs) s found = by (from x) (is_here owner t x) refl refl found (λ h. none_between e t own after less xs s.1 h)
    where
      behind : (x : NameEntry) (ys : List NameEntry) → x ≡ e → AllByRecursion (λ y. row_cmp name_entry_key x y ≡ Less) ys → filter (is_here owner t) ys ≡ []
      behind x [] is h = refl
      behind x (y ∷ ys) is h = each (is_here owner t y) refl (behind x ys is h.1)
        where
          each : (b : Bool) → is_here owner t y ≡ b → filter (is_here owner t) ys ≡ [] → cond b (y ∷ filter (is_here owner t) ys) (filter (is_here owner t) ys) ≡ []
          each true q rest = absurd (not_behind e t own less y q (subst (λ z. row_cmp name_entry_key z y ≡ Less) is h.0))
          each false q rest = rest

      itself : is_here owner t e ≡ true → ⊥
      itself q = true≢false (sym less ∙ ap (λ u. is_after t u) (here_name owner t e q) ∙ ap is_lt (tied_itself nat_list_cmp_total t))

      by : (a b : Bool) → from x ≡ a → is_here owner t x ≡ b → cond a (Some x) (find from xs) ≡ Some e → (find from xs ≡ Some e → filter (is_here owner t) xs ≡ []) → cond b (x ∷ filter (is_here owner t) xs) (filter (is_here owner t) xs) ≡ []
      by true true q r h rest = let is : x ≡ e = cc in absurd (itself (subst (λ z. is_here owner t z ≡ true) is r))
      by true false q r h rest = let is : x ≡ e = cc in behind x xs is s.0
      by false true q r h rest = absurd (true≢false (sym (here_from t after x r) ∙ q))
      by false false q r h rest = rest h

  module _ (e : NameEntry) (found : find from entries ≡ Some e) where
    passes : (is_after name e.name && (e.number == owner)) ≡ true
    passes = sym (from_is e) ∙ found_passes from entries e found

    own : (e.number == owner) ≡ true
    own = second_so (is_after name e.name) (e.number == owner) passes

    here : is_here owner e.name e ≡ true
    here = ap (λ b. b && true && (e.number == owner)) (same_bytes e.name) ∙ own

    -- no mailbox of the owner has a name between
    least : (r : Mailbox) → r.name ≡ e.name → find (λ (s : Mailbox). is_after name s.name && is_after s.name r.name && (s.owner == owner)) rows ≡ None
    least r is = by (find between rows) refl
      where
        between : Mailbox → Bool
        between = λ s. is_after name s.name && is_after s.name r.name && (s.owner == owner)

        by : (o : Option Mailbox) → find between rows ≡ o → o ≡ None
        by None q = refl
        by (Some s) q =
            let all = found_passes between rows s q in
            let two = first_so (is_after name s.name && is_after s.name r.name) (s.owner == owner) all in
            let after = first_so (is_after name s.name) (is_after s.name r.name) two in
            let less = second_so (is_after name s.name) (is_after s.name r.name) two in
            let owned = second_so (is_after name s.name && is_after s.name r.name) (s.owner == owner) all in
            absurd (not_missed between (has_mailbox_name owner s.name) rows s q (has_own_name s owned)
            (no_mailbox s.name (none_between e s.name own after (ap (is_after s.name) (sym is) ∙ less) entries order found)))

    pub next_some : (o : Option Mailbox) → o ≡ mailbox_named owner e.name rows → IsNextMailbox owner name rows o
    next_some None q = absurd (not_missed from (is_here owner e.name) entries e found here (no_entry e.name (no_filtered (has_mailbox_name owner e.name) rows (sym q))))
    next_some (Some r) q =
        let has = found_passes (has_mailbox_name owner e.name) rows r (sym q) in
        let name_is : r.name ≡ e.name = (bytes_decides r.name e.name).0 (first_so (pointwise nat_eq r.name e.name) (r.owner == owner) has) in
        let owner_of : r.owner ≡ owner = eqb-true r.owner owner (second_so (pointwise nat_eq r.name e.name) (r.owner == owner) has) in
        record {
          owner_is = owner_of;
          after = ap (is_after name) name_is ∙ first_so (is_after name e.name) (e.number == owner) passes;
          between = least r name_is;
          first = sym (q ∙ ap (λ t. mailbox_named owner t rows) (sym name_is));
        }
