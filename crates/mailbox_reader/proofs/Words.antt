-- Words in their order.
use Rattle.std.proofs.Common.{ℕ, ◌≡◌, ◌==◌, ◌||◌, Bool, true, false, List, [], ◌∷◌, length, map, ◌<◌, arith, refl, sym, ap, subst, ◌∙◌}
use Rattle.std.specs.List.{AllByRecursion, list_any}
use Rattle.std.specs.List.Sorted.{IsStrictlySortedBy}
use Rattle.std.specs.declared.cmp.Ordering.{Ordering}
use Rattle.std.specs.declared.cmp.Ordering.TheVariants.{Less, Equal, Greater}
use Rattle.std.specs.Ordering.{nat_cmp, match_ordering}
use Rattle.std.specs.Cmp.{IsTotalOrder}
use Rattle.std.specs.Cmp.Lexicographic.{slice_cmp}
use Rattle.std.specs.BTreeSet.{insert_key}
use Rattle.std.proofs.lemmas.Map.Lookups.{exact_bytes}
use Rattle.std.proofs.lemmas.Bool.{false≢true}
use Rattle.mail_world.specs.Names.{same_name}
use Rattle.mailbox_reader.specs.FlagRows.{has_word}

-- ---- what is among keys when one is put in

or_same : (b c : Bool) → (b || c) ≡ (b || (b || c))
or_same true c = refl
or_same false c = refl

or_swap : (a b c : Bool) → (a || (b || c)) ≡ (b || (a || c))
or_swap true true c = refl
or_swap true false c = refl
or_swap false true c = refl
or_swap false false c = refl

module _ {K : Type 0} (R : K → K → Ordering) (p : K → Bool) (exact : (x y : K) → R x y ≡ Equal → p x ≡ p y) where
  pub any_inserted : (ks : List K) (k : K) → list_any p (insert_key R ks k) ≡ (p k || list_any p ks)
  any_inserted [] k = refl
  any_inserted (x ∷ ks) k = by (R k x) refl (any_inserted ks k)
    where
      by : (o : Ordering) → R k x ≡ o → list_any p (insert_key R ks k) ≡ (p k || list_any p ks)
          → list_any p (match_ordering o (k ∷ x ∷ ks) (x ∷ ks) (x ∷ insert_key R ks k)) ≡ (p k || (p x || list_any p ks))
      by Less e rest = refl
      by Equal e rest = or_same (p x) (list_any p ks) ∙ ap (λ b. b || (p x || list_any p ks)) (sym (exact k x e))
      by Greater e rest = ap (λ b. p x || b) rest ∙ or_swap (p x) (p k) (list_any p ks)

pub any_map : {X Y : Type 0} (p : Y → Bool) (f : X → Y) (xs : List X) → list_any p (map f xs) ≡ list_any (λ x. p (f x)) xs
any_map p f [] = refl
any_map p f (x ∷ xs) = ap (λ b. p (f x) || b) (any_map p f xs)

-- a word among words, which keys have
pub word_inserted : {K : Type 0} (f : K → List ℕ) (ks : List K) (k : K) (word : List ℕ)
    → has_word word (map f (insert_key (λ a b. slice_cmp nat_cmp (f a) (f b)) ks k)) ≡ (same_name (f k) word || has_word word (map f ks))
word_inserted f ks k word =
    any_map (λ w. same_name w word) f (insert_key (λ a b. slice_cmp nat_cmp (f a) (f b)) ks k)
    ∙ (any_inserted (λ a b. slice_cmp nat_cmp (f a) (f b)) (λ x. same_name (f x) word) (λ x y e. ap (λ w. same_name w word) (exact_bytes (f x) (f y) e)) ks k
    ∙ ap (λ b. same_name (f k) word || b) (sym (any_map (λ w. same_name w word) f ks)))

-- ---- the order

above_words : {K : Type 0} (f : K → List ℕ) (x : K) (ks : List K) → AllByRecursion (λ y. slice_cmp nat_cmp (f x) (f y) ≡ Less) ks → AllByRecursion (λ w. slice_cmp nat_cmp (f x) w ≡ Less) (map f ks)
above_words f x [] all = tt
above_words f x (y ∷ ks) all = (all.0, above_words f x ks all.1)

pub sorted_words : {K : Type 0} (f : K → List ℕ) (ks : List K) → IsStrictlySortedBy (λ a b. slice_cmp nat_cmp (f a) (f b)) ks → IsStrictlySortedBy (slice_cmp nat_cmp) (map f ks)
unfolding IsStrictlySortedBy
sorted_words f [] order = tt
sorted_words f (x ∷ ks) order = (above_words f x ks order.0, sorted_words f ks order.1)

module _ {K : Type 0} (R : K → K → Ordering) (total : IsTotalOrder R) where
  above_inserted : (x : K) (ks : List K) (k : K) → R x k ≡ Less → AllByRecursion (λ y. R x y ≡ Less) ks → AllByRecursion (λ y. R x y ≡ Less) (insert_key R ks k)
  above_inserted x [] k less all = (less, tt)
  above_inserted x (y ∷ ks) k less all = by (R k y) (above_inserted x ks k less all.1)
    where
      by : (o : Ordering) → AllByRecursion (λ z. R x z ≡ Less) (insert_key R ks k) → AllByRecursion (λ z. R x z ≡ Less) (match_ordering o (k ∷ y ∷ ks) (y ∷ ks) (y ∷ insert_key R ks k))
      by Less rest = (less, (all.0, all.1))
      by Equal rest = all
      by Greater rest = (all.0, rest)

  below_all : (k x : K) (ks : List K) → R k x ≡ Less → AllByRecursion (λ y. R x y ≡ Less) ks → AllByRecursion (λ y. R k y ≡ Less) ks
  below_all k x [] less all = tt
  below_all k x (y ∷ ks) less all = (total.trans k x y less all.0, below_all k x ks less all.1)

  pub sorted_inserted : (ks : List K) (k : K) → IsStrictlySortedBy R ks → IsStrictlySortedBy R (insert_key R ks k)
  unfolding IsStrictlySortedBy
  sorted_inserted [] k order = (tt, tt)
  sorted_inserted (x ∷ ks) k order = by (R k x) refl (sorted_inserted ks k order.1)
    where
      by : (o : Ordering) → R k x ≡ o → IsStrictlySortedBy R (insert_key R ks k) → IsStrictlySortedBy R (match_ordering o (k ∷ x ∷ ks) (x ∷ ks) (x ∷ insert_key R ks k))
      by Less e rest = ((e, below_all k x ks e order.0), order)
      by Equal e rest = order
      by Greater e rest = (above_inserted x ks k (total.antisymm x k ∙ rw e refl) order.0, rest)

-- ---- what is taken from one list into another

turned : (a b c : Bool) → ((b || a) || c) ≡ (a || (b || c))
turned true true c = refl
turned true false c = refl
turned false true c = refl
turned false false c = refl

pub moved : (a b c e total : Bool) → e ≡ (b || a) → (a || (b || c)) ≡ total → (e || c) ≡ total
moved a b c e total p q = ap (λ x. x || c) p ∙ (turned a b c ∙ q)

pub or_none : (b : Bool) → (b || false) ≡ b
or_none true = refl
or_none false = refl

pub same_bool : (b c : Bool) → (b ≡ true → c ≡ true) → (c ≡ true → b ≡ true) → b ≡ c
same_bool true c h k = sym (h refl)
same_bool false true h k = k refl
same_bool false false h k = refl
