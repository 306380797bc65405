-- Where two lists of numbers part: at the first number that isn't in the other, where both ascend.
use Rattle.std.proofs.Common.{ℕ, ◌≡◌, ◌+◌, ◌<◌, ◌≤◌, ◌==◌, ◌||◌, Bool, true, false, not, cond, List, [], ◌∷◌, length, drop, drop-cons, Some, None, ⊎_elim, refl, sym, subst, ◌∙◌, arith}
use Rattle.std.specs.List.{AllByRecursion, list_any, position_from}
use Rattle.std.specs.List.Sorted.{IsStrictlySortedBy}
use Rattle.std.specs.Ordering.{nat_cmp}
use Rattle.std.specs.declared.cmp.Ordering.TheVariants.{Less}
use Rattle.std.proofs.lemmas.Bool.{false≢true, true≢false, eqb-true, eq-eqb, ne_eqb, or_cases}
use Rattle.std.proofs.lemmas.Cmp.{ranked}
use Rattle.mailbox_core.specs.SummaryRows.{parts_at}

pub parts_at_once : (ns : List ℕ) → 0 < length ns → Some 0 ≡ parts_at 0 ns []
parts_at_once [] there = absurd (omega arith)
parts_at_once (n ∷ ns) there = refl

pub parts_nowhere : (ns : List ℕ) → length ns ≤ 0 → None ≡ parts_at 0 ns []
parts_nowhere [] none = refl
parts_nowhere (n ∷ ns) none = absurd (omega arith)

-- ---- numbers that ascend

abbrev pub Rises : List ℕ → Type 0
Rises [] = Unit {0}
Rises (n ∷ ns) = AllByRecursion (λ m. n < m) ns × Rises ns

all_less : (n : ℕ) (ns : List ℕ) → AllByRecursion (λ m. nat_cmp n m ≡ Less) ns → AllByRecursion (λ m. n < m) ns
all_less n [] all = tt
all_less n (m ∷ ns) all = (ranked n m Less (sym all.0), all_less n ns all.1)

pub sorted_rise : (ns : List ℕ) → IsStrictlySortedBy nat_cmp ns → Rises ns
unfolding IsStrictlySortedBy
sorted_rise [] order = tt
sorted_rise (n ∷ ns) order = (all_less n ns order.0, sorted_rise ns order.1)

abbrev pub is_in : ℕ → List ℕ → Bool
is_in n ns = list_any (λ m. m == n) ns

pub member_holds : (P : ℕ → Type 0) (n : ℕ) (ns : List ℕ) → is_in n ns ≡ true → AllByRecursion P ns → P n
member_holds P n [] there all = absurd (false≢true there)
member_holds P n (m ∷ ns) there all =
    ⊎_elim (λ (here : (m == n) ≡ true). subst P (eqb-true m n here) all.0) (λ (behind : is_in n ns ≡ true). member_holds P n ns behind all.1) (or_cases (m == n) (is_in n ns) there)

pub not_above : (n : ℕ) (ns : List ℕ) → AllByRecursion (λ m. n < m) ns → is_in n ns ≡ false
not_above n [] all = refl
not_above n (m ∷ ns) all = rw (ne_eqb m n (λ same. omega (arith, all.0, same))) (not_above n ns all.1)

pub above_less : (n m : ℕ) (ns : List ℕ) → n < m → AllByRecursion (λ k. m < k) ns → AllByRecursion (λ k. n < k) ns
above_less n m [] less all = tt
above_less n m (k ∷ ns) less all = (omega (arith, all.0, less), above_less n m ns less all.1)

-- ---- where they part

positions : (p q : ℕ → Bool) (place : ℕ) (ns : List ℕ) → AllByRecursion (λ n. p n ≡ q n) ns → position_from p place ns ≡ position_from q place ns
positions p q place [] all = refl
positions p q place (n ∷ ns) all = rw (all.0, positions p q (place + 1) ns all.1) refl

-- numbers above one aren't it
pub passed : (o : ℕ) (os ns : List ℕ) → AllByRecursion (λ m. o < m) ns → AllByRecursion (λ n. not ((o == n) || is_in n os) ≡ not (is_in n os)) ns
passed o os [] all = tt
passed o os (n ∷ ns) all = (rw (ne_eqb o n (λ same. omega (arith, all.0, same))) refl, passed o os ns all.1)

-- those above the first are among the rest
pub behind_first : (n : ℕ) (ns os : List ℕ) → AllByRecursion (λ o. n < o) os → AllByRecursion (λ o. is_in o (n ∷ ns) ≡ true) os → AllByRecursion (λ o. is_in o ns ≡ true) os
behind_first n ns [] above all = tt
behind_first n ns (o ∷ os) above all =
    (⊎_elim (λ (here : (n == o) ≡ true). absurd (omega (arith, eqb-true n o here, above.0))) (λ (behind : is_in o ns ≡ true). behind) (or_cases (n == o) (is_in o ns) all.0), behind_first n ns os above.1 all.1)

-- what is among numbers and isn't the first is above it
pub above_first : (n o : ℕ) (ns : List ℕ) → AllByRecursion (λ m. n < m) ns → (o == n) ≡ false → is_in o (n ∷ ns) ≡ true → n < o
above_first n o ns all differs there =
    ⊎_elim (λ (here : (n == o) ≡ true). absurd (true≢false (sym (eq-eqb o n (sym (eqb-true n o here))) ∙ differs)))
    (λ (behind : is_in o ns ≡ true). member_holds (λ m. n < m) o ns behind all) (or_cases (n == o) (is_in o ns) there)

pub parts : (place : ℕ) (ns os : List ℕ) → Rises ns → Rises os → AllByRecursion (λ o. is_in o ns ≡ true) os → parts_at place ns os ≡ position_from (λ n. not (is_in n os)) place ns
parts place [] os up over all = refl
parts place (n ∷ ns) [] up over all = refl
parts place (n ∷ ns) (o ∷ os) up over all = by (o == n) refl (parts (place + 1) ns os up.1 over.1)
  where
    by : (b : Bool) → (o == n) ≡ b
        → (AllByRecursion (λ x. is_in x ns ≡ true) os → parts_at (place + 1) ns os ≡ position_from (λ m. not (is_in m os)) (place + 1) ns)
        → cond b (parts_at (place + 1) ns os) (Some place) ≡ cond (not (b || is_in n os)) (Some place) (position_from (λ m. not ((o == m) || is_in m os)) (place + 1) ns)
    by true e rest =
        let same : o ≡ n = eqb-true o n e in
        let above : AllByRecursion (λ m. n < m) os = subst (λ k. AllByRecursion (λ m. k < m) os) same over.0 in
        let skipped = positions (λ m. not ((o == m) || is_in m os)) (λ m. not (is_in m os)) (place + 1) ns (passed o os ns (subst (λ k. AllByRecursion (λ m. k < m) ns) (sym same) up.0)) in
        rest (behind_first n ns os above all.1) ∙ sym skipped
    by false e rest =
        let less : n < o = above_first n o ns up.0 e all.0 in
        rw (not_above n os (above_less n o os less over.0)) refl

-- tests that agree have one place
pub positions_all : (p q : ℕ → Bool) (place : ℕ) (ns : List ℕ) → ((n : ℕ) → p n ≡ q n) → position_from p place ns ≡ position_from q place ns
positions_all p q place [] same = refl
positions_all p q place (n ∷ ns) same = rw (same n, positions_all p q (place + 1) ns same) refl

-- a number that has none at its place
pub parts_here : (place : ℕ) (ns os : List ℕ) → place < length ns → os ≡ [] → Some place ≡ parts_at place (drop place ns) os
parts_here place ns os within e = rw (e, drop-cons ns place 0) refl
