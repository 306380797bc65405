-- Words in their order.
use Rattle.std.proofs.Common.{ℕ, ◌≡◌, ◌==◌, ◌||◌, Bool, true, false, List, [], ◌∷◌, length, map, ◌<◌, arith, ⊎_elim, refl, sym, ap, subst, ◌∙◌}
use Rattle.std.specs.List.{AllByRecursion, list_any}
use Rattle.std.specs.List.Sorted.{IsStrictlySortedBy}
use Rattle.std.specs.declared.cmp.Ordering.{Ordering}
use Rattle.std.specs.declared.cmp.Ordering.TheVariants.{Less, Equal, Greater}
use Rattle.std.specs.Ordering.{nat_cmp, match_ordering}
use Rattle.std.specs.Cmp.{IsTotalOrder}
use Rattle.std.specs.Cmp.Lexicographic.{slice_cmp}
use Rattle.std.specs.BTreeSet.{insert_key}
use Rattle.std.proofs.lemmas.Map.Lookups.{exact_bytes, exact_unsigned}
use Rattle.std.proofs.lemmas.Bool.{false≢true, eqb-true, eq-eqb, or_cases, or_left, or_right}
use Rattle.row_tables.specs.declared.marks.FlagName.{FlagName}
use Rattle.row_tables.specs.declared.marks.FlagRow.{FlagRow}
use Rattle.mail_world.specs.Names.{same_name}
use Rattle.mailbox_core.specs.SummaryRows.{has_word, is_id_of, AreKeywords}

-- ---- what is among keys when one is put in

or_same : (b c : Bool) → (b || c) ≡ (b || (b || c))
or_same true c = refl
or_same false c = refl

or_swap : (a b c : Bool) → (a || (b || c)) ≡ (b || (a || c))
or_swap true true c = refl
or_swap true false c = refl
or_swap false true c = refl
or_swap false false c = refl

module _ {K : Type 0} (R : K → K → Ordering) (p : K → Bool) (exact : (x y : K) → R x y ≡ Equal → p x ≡ p y) where
  pub any_inserted : (ks : List K) (k : K) → list_any p (insert_key R ks k) ≡ (p k || list_any p ks)
  any_inserted [] k = refl
  any_inserted (x ∷ ks) k = by (R k x) refl (any_inserted ks k)
    where
      by : (o : Ordering) → R k x ≡ o → list_any p (insert_key R ks k) ≡ (p k || list_any p ks)
          → list_any p (match_ordering o (k ∷ x ∷ ks) (x ∷ ks) (x ∷ insert_key R ks k)) ≡ (p k || (p x || list_any p ks))
      by Less e rest = refl
      by Equal e rest = or_same (p x) (list_any p ks) ∙ ap (λ b. b || (p x || list_any p ks)) (sym (exact k x e))
      by Greater e rest = ap (λ b. p x || b) rest ∙ or_swap (p x) (p k) (list_any p ks)

pub any_map : {X Y : Type 0} (p : Y → Bool) (f : X → Y) (xs : List X) → list_any p (map f xs) ≡ list_any (λ x. p (f x)) xs
any_map p f [] = refl
any_map p f (x ∷ xs) = ap (λ b. p (f x) || b) (any_map p f xs)

-- an id among ids
pub id_inserted : (ids : List ℕ) (flag id : ℕ) → list_any (λ i. i == id) (insert_key nat_cmp ids flag) ≡ ((flag == id) || list_any (λ i. i == id) ids)
id_inserted ids flag id = any_inserted nat_cmp (λ i. i == id) (λ x y e. ap (λ i. i == id) (exact_unsigned x y e)) ids flag

-- a word among words, which keys have
pub word_inserted : {K : Type 0} (f : K → List ℕ) (ks : List K) (k : K) (word : List ℕ)
    → has_word word (map f (insert_key (λ a b. slice_cmp nat_cmp (f a) (f b)) ks k)) ≡ (same_name (f k) word || has_word word (map f ks))
word_inserted f ks k word =
    any_map (λ w. same_name w word) f (insert_key (λ a b. slice_cmp nat_cmp (f a) (f b)) ks k)
    ∙ (any_inserted (λ a b. slice_cmp nat_cmp (f a) (f b)) (λ x. same_name (f x) word) (λ x y e. ap (λ w. same_name w word) (exact_bytes (f x) (f y) e)) ks k
    ∙ ap (λ b. same_name (f k) word || b) (sym (any_map (λ w. same_name w word) f ks)))

-- ---- the order

above_words : {K : Type 0} (f : K → List ℕ) (x : K) (ks : List K) → AllByRecursion (λ y. slice_cmp nat_cmp (f x) (f y) ≡ Less) ks → AllByRecursion (λ w. slice_cmp nat_cmp (f x) w ≡ Less) (map f ks)
above_words f x [] all = tt
above_words f x (y ∷ ks) all = (all.0, above_words f x ks all.1)

pub sorted_words : {K : Type 0} (f : K → List ℕ) (ks : List K) → IsStrictlySortedBy (λ a b. slice_cmp nat_cmp (f a) (f b)) ks → IsStrictlySortedBy (slice_cmp nat_cmp) (map f ks)
unfolding IsStrictlySortedBy
sorted_words f [] order = tt
sorted_words f (x ∷ ks) order = (above_words f x ks order.0, sorted_words f ks order.1)

module _ {K : Type 0} (R : K → K → Ordering) (total : IsTotalOrder R) where
  above_inserted : (x : K) (ks : List K) (k : K) → R x k ≡ Less → AllByRecursion (λ y. R x y ≡ Less) ks → AllByRecursion (λ y. R x y ≡ Less) (insert_key R ks k)
  above_inserted x [] k less all = (less, tt)
  above_inserted x (y ∷ ks) k less all = by (R k y) (above_inserted x ks k less all.1)
    where
      by : (o : Ordering) → AllByRecursion (λ z. R x z ≡ Less) (insert_key R ks k) → AllByRecursion (λ z. R x z ≡ Less) (match_ordering o (k ∷ y ∷ ks) (y ∷ ks) (y ∷ insert_key R ks k))
      by Less rest = (less, (all.0, all.1))
      by Equal rest = all
      by Greater rest = (all.0, rest)

  below_all : (k x : K) (ks : List K) → R k x ≡ Less → AllByRecursion (λ y. R x y ≡ Less) ks → AllByRecursion (λ y. R k y ≡ Less) ks
  below_all k x [] less all = tt
  below_all k x (y ∷ ks) less all = (total.trans k x y less all.0, below_all k x ks less all.1)

  pub sorted_inserted : (ks : List K) (k : K) → IsStrictlySortedBy R ks → IsStrictlySortedBy R (insert_key R ks k)
  unfolding IsStrictlySortedBy
  sorted_inserted [] k order = (tt, tt)
  sorted_inserted (x ∷ ks) k order = by (R k x) refl (sorted_inserted ks k order.1)
    where
      by : (o : Ordering) → R k x ≡ o → IsStrictlySortedBy R (insert_key R ks k) → IsStrictlySortedBy R (match_ordering o (k ∷ x ∷ ks) (x ∷ ks) (x ∷ insert_key R ks k))
      by Less e rest = ((e, below_all k x ks e order.0), order)
      by Equal e rest = order
      by Greater e rest = (above_inserted x ks k (total.antisymm x k ∙ rw e refl) order.0, rest)

-- ---- what is taken from one list into another

turned : (a b c : Bool) → ((b || a) || c) ≡ (a || (b || c))
turned true true c = refl
turned true false c = refl
turned false true c = refl
turned false false c = refl

pub moved : (a b c e total : Bool) → e ≡ (b || a) → (a || (b || c)) ≡ total → (e || c) ≡ total
moved a b c e total p q = ap (λ x. x || c) p ∙ (turned a b c ∙ q)

or_none : (b : Bool) → (b || false) ≡ b
or_none true = refl
or_none false = refl

pub moved_all : {X : Type 0} (h total : Bool) (p : X → Bool) (xs : List X) → (0 < length xs → false ≡ true) → (h || list_any p xs) ≡ total → h ≡ total
moved_all h total p [] none e = sym (or_none h) ∙ e
moved_all h total p (x ∷ xs) none e = absurd (false≢true (none (omega arith)))

-- ---- lists with the same numbers

pub same_bool : (b c : Bool) → (b ≡ true → c ≡ true) → (c ≡ true → b ≡ true) → b ≡ c
same_bool true c h k = sym (h refl)
same_bool false true h k = k refl
same_bool false false h k = refl

abbrev has : List ℕ → ℕ → Bool
has ns n = list_any (λ i. i == n) ns

any_member : (p : ℕ → Bool) (ns : List ℕ) → list_any p ns ≡ true → (n : ℕ) × (has ns n ≡ true) × (p n ≡ true)
any_member p [] there = absurd (false≢true there)
any_member p (n ∷ ns) there =
    ⊎_elim (λ (here : p n ≡ true). (n, or_left (n == n) (has ns n) (eq-eqb n n refl), here))
    (λ (behind : list_any p ns ≡ true). let its = any_member p ns behind in (its.0, or_right (n == its.0) (has ns its.0) its.1, its.2))
    (or_cases (p n) (list_any p ns) there)

member_any : (p : ℕ → Bool) (ns : List ℕ) (n : ℕ) → has ns n ≡ true → p n ≡ true → list_any p ns ≡ true
member_any p [] n there passes = absurd (false≢true there)
member_any p (m ∷ ns) n there passes =
    ⊎_elim (λ (here : (m == n) ≡ true). or_left (p m) (list_any p ns) (subst (λ k. p k ≡ true) (sym (eqb-true m n here)) passes))
    (λ (behind : has ns n ≡ true). or_right (p m) (list_any p ns) (member_any p ns n behind passes)) (or_cases (m == n) (has ns n) there)

within : (p : ℕ → Bool) (ns os : List ℕ) → ((n : ℕ) → has ns n ≡ has os n) → list_any p ns ≡ true → list_any p os ≡ true
within p ns os same there = let its = any_member p ns there in member_any p os its.0 (sym (same its.0) ∙ its.1) its.2

same_any : (p : ℕ → Bool) (ns os : List ℕ) → ((n : ℕ) → has ns n ≡ has os n) → list_any p ns ≡ list_any p os
same_any p ns os same = same_bool (list_any p ns) (list_any p os) (within p ns os same) (within p os ns (λ n. sym (same n)))

-- keywords of ids are those of the rows that have them
pub keywords_of_rows : (names : List FlagName) (ids : List ℕ) (rows : List FlagRow) (words own : List (List ℕ)) → AreKeywords names ids words → own ≡ words
    → ((id : ℕ) → list_any (λ i. i == id) ids ≡ list_any (λ row. row.flag == id) rows) → AreKeywords names (map (λ row. row.flag) rows) own
keywords_of_rows names ids rows words own are same ids_are =
    let here : AreKeywords names (map (λ (row : FlagRow). row.flag) rows) words =
    record {
      order = are.order;
      each = λ word. are.each word ∙ same_any (is_id_of word names) ids (map (λ (row : FlagRow). row.flag) rows) (λ id. ids_are id ∙ sym (any_map (λ i. i == id) (λ (row : FlagRow). row.flag) rows));
    } in
    subst (λ (l : List (List ℕ)). AreKeywords names (map (λ (row : FlagRow). row.flag) rows) l) (sym same) here
