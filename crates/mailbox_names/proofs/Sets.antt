-- Names as sets, in their order.
use Rattle.std.proofs.Common.{ℕ, ◌≡◌, ◌||◌, Bool, true, false, List, [], ◌∷◌, map, refl, sym, ap, ◌∙◌}
use Rattle.std.specs.List.{AllByRecursion, list_any}
use Rattle.std.specs.List.Sorted.{IsStrictlySortedBy}
use Rattle.std.specs.declared.cmp.Ordering.{Ordering}
use Rattle.std.specs.declared.cmp.Ordering.TheVariants.{Less, Equal, Greater}
use Rattle.std.specs.Ordering.{nat_cmp, is_eq, match_ordering}
use Rattle.std.specs.Cmp.{IsTotalOrder}
use Rattle.std.specs.Cmp.Lexicographic.{slice_cmp, bytes_decides}
use Rattle.std.specs.BTreeSet.{insert_key}
use Rattle.std.proofs.lemmas.Cmp.{nat_list_cmp_total}
use Rattle.std.proofs.lemmas.Map.Lookups.{btree_set_from_contains, exact_bytes}
use Rattle.std.proofs.lemmas.Map.Text.{is_eq-slice_cmp}
use Rattle.mailbox_names.specs.Names.{same_name, has_name}
use Rattle.mailbox_names.specs.Listing.{in_order}

-- ---- booleans

or_same : (b c : Bool) → (b || c) ≡ (b || (b || c))
or_same true c = refl
or_same false c = refl

or_swap : (a b c : Bool) → (a || (b || c)) ≡ (b || (a || c))
or_swap true true c = refl
or_swap true false c = refl
or_swap false true c = refl
or_swap false false c = refl

pub same_bool : (b c : Bool) → (b ≡ true → c ≡ true) → (c ≡ true → b ≡ true) → b ≡ c
same_bool true c h k = sym (h refl)
same_bool false true h k = k refl
same_bool false false h k = refl

-- ---- lists

pub any_map : {X Y : Type 0} (p : Y → Bool) (f : X → Y) (xs : List X) → list_any p (map f xs) ≡ list_any (λ x. p (f x)) xs
any_map p f [] = refl
any_map p f (x ∷ xs) = ap (λ b. p (f x) || b) (any_map p f xs)

-- ---- a key that is put in

module _ {K : Type 0} (R : K → K → Ordering) (p : K → Bool) (exact : (x y : K) → R x y ≡ Equal → p x ≡ p y) where
  any_inserted : (ks : List K) (k : K) → list_any p (insert_key R ks k) ≡ (p k || list_any p ks)
  any_inserted [] k = refl
  any_inserted (x ∷ ks) k = by (R k x) refl (any_inserted ks k)
    where
      by : (o : Ordering) → R k x ≡ o → list_any p (insert_key R ks k) ≡ (p k || list_any p ks)
          → list_any p (match_ordering o (k ∷ x ∷ ks) (x ∷ ks) (x ∷ insert_key R ks k)) ≡ (p k || (p x || list_any p ks))
      by Less e rest = refl
      by Equal e rest = or_same (p x) (list_any p ks) ∙ ap (λ b. b || (p x || list_any p ks)) (sym (exact k x e))
      by Greater e rest = ap (λ b. p x || b) rest ∙ or_swap (p x) (p k) (list_any p ks)

module _ {K : Type 0} (R : K → K → Ordering) (total : IsTotalOrder R) where
  above_inserted : (x : K) (ks : List K) (k : K) → R x k ≡ Less → AllByRecursion (λ y. R x y ≡ Less) ks → AllByRecursion (λ y. R x y ≡ Less) (insert_key R ks k)
  above_inserted x [] k less all = (less, tt)
  above_inserted x (y ∷ ks) k less all = by (R k y) (above_inserted x ks k less all.1)
    where
      by : (o : Ordering) → AllByRecursion (λ z. R x z ≡ Less) (insert_key R ks k) → AllByRecursion (λ z. R x z ≡ Less) (match_ordering o (k ∷ y ∷ ks) (y ∷ ks) (y ∷ insert_key R ks k))
      by Less rest = (less, (all.0, all.1))
      by Equal rest = all
      by Greater rest = (all.0, rest)

  below_all : (k x : K) (ks : List K) → R k x ≡ Less → AllByRecursion (λ y. R x y ≡ Less) ks → AllByRecursion (λ y. R k y ≡ Less) ks
  below_all k x [] less all = tt
  below_all k x (y ∷ ks) less all = (total.trans k x y less all.0, below_all k x ks less all.1)

  sorted_inserted : (ks : List K) (k : K) → IsStrictlySortedBy R ks → IsStrictlySortedBy R (insert_key R ks k)
  unfolding IsStrictlySortedBy
  sorted_inserted [] k order = (tt, tt)
  sorted_inserted (x ∷ ks) k order = by (R k x) refl (sorted_inserted ks k order.1)
    where
      by : (o : Ordering) → R k x ≡ o → IsStrictlySortedBy R (insert_key R ks k) → IsStrictlySortedBy R (match_ordering o (k ∷ x ∷ ks) (x ∷ ks) (x ∷ insert_key R ks k))
      by Less e rest = ((e, below_all k x ks e order.0), order)
      by Equal e rest = order
      by Greater e rest = (above_inserted x ks k (total.antisymm x k ∙ rw e refl) order.0, rest)

-- ---- names in order

abbrev pub Sorted : List (List ℕ) → Type 0
Sorted names = IsStrictlySortedBy (slice_cmp nat_cmp) names

pub ordered : (names : List (List ℕ)) → Sorted (in_order names)
unfolding IsStrictlySortedBy
ordered [] = tt
ordered (name ∷ names) = sorted_inserted (slice_cmp nat_cmp) nat_list_cmp_total (in_order names) name (ordered names)

pub ordered_has : (text : List ℕ) (names : List (List ℕ)) → has_name text (in_order names) ≡ has_name text names
ordered_has text [] = refl
ordered_has text (name ∷ names) =
    any_inserted (slice_cmp nat_cmp) (λ n. same_name n text) (λ x y e. ap (λ n. same_name n text) (exact_bytes x y e)) (in_order names) name
    ∙ ap (λ b. same_name name text || b) (ordered_has text names)

pub same_flipped : (a b : List ℕ) → same_name a b ≡ same_name b a
same_flipped a b = same_bool (same_name a b) (same_name b a) (λ e. (bytes_decides b a).1 (sym ((bytes_decides a b).0 e))) (λ e. (bytes_decides a b).1 (sym ((bytes_decides b a).0 e)))

pub found_as : (text : List ℕ) (names : List (List ℕ)) → list_any (λ n. is_eq (slice_cmp nat_cmp text n)) names ≡ has_name text names
found_as text [] = refl
found_as text (name ∷ names) = ap (λ b. b || list_any (λ n. is_eq (slice_cmp nat_cmp text n)) names) (is_eq-slice_cmp text name ∙ same_flipped text name) ∙ ap (λ b. same_name name text || b) (found_as text names)

pub same_names : (a b : List (List ℕ)) → Sorted a → Sorted b → ((text : List ℕ) → has_name text a ≡ has_name text b) → a ≡ b
same_names a b up over same =
    btree_set_from_contains nat_list_cmp_total (record { keys = a }) (record { keys = b }) up over (λ text. found_as text a ∙ (same text ∙ sym (found_as text b))) exact_bytes

-- names in order, none twice, are any names of the same set, put in order
pub are_ordered : (found names : List (List ℕ)) → Sorted found → ((text : List ℕ) → has_name text found ≡ has_name text names) → found ≡ in_order names
are_ordered found names up same = same_names found (in_order names) up (ordered names) (λ text. same text ∙ sym (ordered_has text names))

-- ---- the keys of a set, which lie elsewhere

pub key_inserted : {K : Type 0} (f : K → List ℕ) (ks : List K) (k : K) (text : List ℕ)
    → has_name text (map f (insert_key (λ a b. slice_cmp nat_cmp (f a) (f b)) ks k)) ≡ (same_name (f k) text || has_name text (map f ks))
key_inserted f ks k text =
    any_map (λ n. same_name n text) f (insert_key (λ a b. slice_cmp nat_cmp (f a) (f b)) ks k)
    ∙ (any_inserted (λ a b. slice_cmp nat_cmp (f a) (f b)) (λ x. same_name (f x) text) (λ x y e. ap (λ n. same_name n text) (exact_bytes (f x) (f y) e)) ks k
    ∙ ap (λ b. same_name (f k) text || b) (sym (any_map (λ n. same_name n text) f ks)))

above_keys : {K : Type 0} (f : K → List ℕ) (x : K) (ks : List K) → AllByRecursion (λ y. slice_cmp nat_cmp (f x) (f y) ≡ Less) ks → AllByRecursion (λ n. slice_cmp nat_cmp (f x) n ≡ Less) (map f ks)
above_keys f x [] all = tt
above_keys f x (y ∷ ks) all = (all.0, above_keys f x ks all.1)

pub sorted_keys : {K : Type 0} (f : K → List ℕ) (ks : List K) → IsStrictlySortedBy (λ a b. slice_cmp nat_cmp (f a) (f b)) ks → Sorted (map f ks)
unfolding IsStrictlySortedBy
sorted_keys f [] order = tt
sorted_keys f (x ∷ ks) order = (above_keys f x ks order.0, sorted_keys f ks order.1)

pub key_found : {K : Type 0} (f : K → List ℕ) (ks : List K) (text : List ℕ) → list_any (λ k. is_eq (slice_cmp nat_cmp text (f k))) ks ≡ has_name text (map f ks)
key_found f ks text = sym (any_map (λ n. is_eq (slice_cmp nat_cmp text n)) f ks) ∙ found_as text (map f ks)
