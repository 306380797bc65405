-- Groups of rows, and tests of rows, in lists in order.
use Rattle.std.proofs.Common.{◌≡◌, ℕ, Bool, true, false, not, cond, ◌&&◌, ◌==◌, nat_eq, nat_lt, List, [], ◌∷◌, ◌++◌, map, Some, None, refl, sym, ap, ◌∙◌, arith}
use mathlib.Core.Bool.{true≢false}
use borrow.Author.Tests.{ltb-true}
use Rattle.std.proofs.lemmas.List.Kept.{IsStrictlySortedBy-filter}
use Rattle.std.proofs.lemmas.List.{map-append}
use Rattle.std.proofs.lemmas.List.Elements.{filter-append}
use Rattle.std.specs.declared.cmp.Ordering.{Ordering}
use Rattle.std.specs.declared.cmp.Ordering.TheVariants.{Less, Equal, Greater}
use Rattle.std.specs.Ordering.{is_lt, is_eq, ordering_then, nat_cmp}
use Rattle.std.specs.Cmp.{IsTotalOrder, then_total, on_total, nat_cmp_total, alike_right, unsigned_ties, Equal-is, both_tied}
use Rattle.std.specs.Cmp.Lexicographic.{slice_cmp, pointwise, texts_ties}
use Rattle.std.specs.List.{filter, find, AllByRecursion}
use Rattle.std.specs.List.Sorted.{IsStrictlySortedBy}
use Rattle.ordered_rows.specs.RowKey.{RowKey, same_group, first_key}
use Rattle.ordered_rows.specs.Listed.{row_cmp, IsInOrder, is_below, rows_from, with_row, is_in_group, leading, placed}
use Rattle.ordered_rows.proofs.Cuts.{AllAre, Falls, falls_cut, filter-keeps, filter-AllAre, AllAre-back, filter-failing}
use Rattle.ordered_rows.proofs.AfterEdits.{none-filter}
use Rattle.ordered_rows.proofs.Keys.{below_falls, find-behind, none-find, texts_total}

-- ---- tests after an insertion

-- two filters, one after the other, in either order
filter-turned : {X : Type 0} (g p : X → Bool) (xs : List X) → filter g (filter p xs) ≡ filter p (filter g xs)
filter-turned g p [] = refl
filter-turned g p (x ∷ xs) = by (p x) (g x) refl refl (filter-turned g p xs)
  where
    by : (a b : Bool) → p x ≡ a → g x ≡ b → filter g (filter p xs) ≡ filter p (filter g xs) → filter g (cond a (x ∷ filter p xs) (filter p xs)) ≡ filter p (cond b (x ∷ filter g xs) (filter g xs))
    by true true pe ge rest = ap (λ c. cond c (x ∷ filter g (filter p xs)) (filter g (filter p xs))) ge ∙ ap (λ l. x ∷ l) rest ∙ ap (λ c. cond c (x ∷ filter p (filter g xs)) (filter p (filter g xs))) (sym pe)
    by true false pe ge rest = ap (λ c. cond c (x ∷ filter g (filter p xs)) (filter g (filter p xs))) ge ∙ rest
    by false true pe ge rest = rest ∙ ap (λ c. cond c (x ∷ filter p (filter g xs)) (filter p (filter g xs))) (sym pe)
    by false false pe ge rest = rest

module _ {X : Type 0} (key : X → RowKey) (g : X → Bool) (row : X) (rows : List X) where
  abbrev p : X → Bool
  p = is_below key (key row)

  abbrev q : X → Bool
  q = λ r. not (p r)

  pub found_same : g row ≡ true → find g rows ≡ None → find g (with_row key row rows) ≡ Some row
  found_same e none =
      find-behind g (filter p rows) (row ∷ filter q rows) (filter-AllAre g false p rows (none-find g rows none)) ∙ ap (λ c. cond c (Some row) (find g (filter q rows))) e

  find-skip : (xs ys : List X) → g row ≡ false → find g (xs ++ row ∷ ys) ≡ find g (xs ++ ys)
  find-skip [] ys e = ap (λ c. cond c (Some row) (find g ys)) e
  find-skip (x ∷ xs) ys e = ap (λ o. cond (g x) (Some x) o) (find-skip xs ys e)

  pub found_other : g row ≡ false → IsInOrder key rows → find g (with_row key row rows) ≡ find g rows
  found_other e order = find-skip (filter p rows) (filter q rows) e ∙ ap (find g) (sym (falls_cut p rows (below_falls key (key row) rows order)))

  pub filtered_same : g row ≡ true → filter g (with_row key row rows) ≡ with_row key row (filter g rows)
  filtered_same e =
      filter-append g (filter p rows) (row ∷ filter q rows) ∙ ap (λ c. filter g (filter p rows) ++ cond c (row ∷ filter g (filter q rows)) (filter g (filter q rows))) e
      ∙ ap (λ l. l ++ row ∷ filter g (filter q rows)) (filter-turned g p rows) ∙ ap (λ l. filter p (filter g rows) ++ row ∷ l) (filter-turned g q rows)

  pub filtered_other : g row ≡ false → IsInOrder key rows → filter g (with_row key row rows) ≡ filter g rows
  filtered_other e order =
      filter-append g (filter p rows) (row ∷ filter q rows) ∙ ap (λ c. filter g (filter p rows) ++ cond c (row ∷ filter g (filter q rows)) (filter g (filter q rows))) e ∙ sym (filter-append g (filter p rows) (filter q rows)) ∙ ap (filter g) (sym (falls_cut p rows (below_falls key (key row) rows order)))

  pub numbers_other : (f : X → ℕ) → g row ≡ false → IsInOrder key rows → map f (filter g (with_row key row rows)) ≡ map f (filter g rows)
  numbers_other f e order = ap (map f) (filtered_other e order)

-- a filter by a test of the number of those that pass
numbers_of : {X : Type 0} (f : X → ℕ) (g p : X → Bool) (t : ℕ → Bool) → ((x : X) → g x ≡ true → p x ≡ t (f x)) → (xs : List X) → map f (filter g (filter p xs)) ≡ filter t (map f (filter g xs))
numbers_of f g p t h [] = refl
numbers_of f g p t h (x ∷ xs) = by (p x) (g x) refl refl (numbers_of f g p t h xs)
  where
    by : (a b : Bool) → p x ≡ a → g x ≡ b → map f (filter g (filter p xs)) ≡ filter t (map f (filter g xs)) → map f (filter g (cond a (x ∷ filter p xs) (filter p xs))) ≡ filter t (map f (cond b (x ∷ filter g xs) (filter g xs)))
    by true true pe ge rest =
        ap (λ c. map f (cond c (x ∷ filter g (filter p xs)) (filter g (filter p xs)))) ge ∙ ap (λ l. f x ∷ l) rest
        ∙ ap (λ c. cond c (f x ∷ filter t (map f (filter g xs))) (filter t (map f (filter g xs)))) (sym pe ∙ h x ge)
    by true false pe ge rest = ap (λ c. map f (cond c (x ∷ filter g (filter p xs)) (filter g (filter p xs)))) ge ∙ rest
    by false true pe ge rest = rest ∙ ap (λ c. cond c (f x ∷ filter t (map f (filter g xs))) (filter t (map f (filter g xs)))) (sym pe ∙ h x ge)
    by false false pe ge rest = rest

pub numbers_same : {X : Type 0} (key : X → RowKey) (f : X → ℕ) (g : X → Bool) (row : X) (rows : List X) → g row ≡ true → ((r : X) → g r ≡ true → is_below key (key row) r ≡ nat_lt (f r) (f row))
    → map f (filter g (with_row key row rows)) ≡ placed (f row) (map f (filter g rows))
numbers_same {X} key f g row rows e h =
    let p : X → Bool = is_below key (key row) in
    let q : X → Bool = λ r. not (p r) in
    ap (map f) (filter-append g (filter p rows) (row ∷ filter q rows) ∙ ap (λ c. filter g (filter p rows) ++ cond c (row ∷ filter g (filter q rows)) (filter g (filter q rows))) e)
    ∙ map-append f (filter g (filter p rows)) (row ∷ filter g (filter q rows))
    ∙ ap (λ l. l ++ f row ∷ map f (filter g (filter q rows))) (numbers_of f g p (λ i. nat_lt i (f row)) h rows)
    ∙ ap (λ l. filter (λ i. nat_lt i (f row)) (map f (filter g rows)) ++ f row ∷ l) (numbers_of f g q (λ i. not (nat_lt i (f row))) (λ r t. ap not (h r t)) rows)

-- ---- groups

abbrev group_cmp : RowKey → RowKey → Ordering
group_cmp a b = ordering_then (ordering_then (ordering_then (ordering_then (nat_cmp a.number b.number) (slice_cmp nat_cmp a.text b.text)) (slice_cmp nat_cmp a.second b.second)) (slice_cmp nat_cmp a.third b.third)) (nat_cmp a.place b.place)

group_total : IsTotalOrder group_cmp
group_total =
    then_total (then_total (then_total (then_total (on_total (λ (k : RowKey). k.number) nat_cmp_total) (on_total (λ (k : RowKey). k.text) texts_total)) (on_total (λ (k : RowKey). k.second) texts_total)) (on_total (λ (k : RowKey). k.third) texts_total))
    (on_total (λ (k : RowKey). k.place) nat_cmp_total)

ordered : (s t x p n : Bool) → (s && t && x && p && n) ≡ (n && x && s && t && p)
ordered true true true true true = refl
ordered true true true true false = refl
ordered true true true false true = refl
ordered true true true false false = refl
ordered true true false p true = refl
ordered true true false p false = refl
ordered true false true p true = refl
ordered true false true p false = refl
ordered true false false p true = refl
ordered true false false p false = refl
ordered false t true p true = refl
ordered false t true p false = refl
ordered false t false p true = refl
ordered false t false p false = refl

group_eq : (a b : RowKey) → same_group a b ≡ is_eq (group_cmp a b)
group_eq a b =
    ordered (pointwise nat_eq a.second b.second) (pointwise nat_eq a.third b.third) (pointwise nat_eq a.text b.text) (a.place == b.place) (a.number == b.number)
    ∙ both_tied _ _ _ _ (both_tied _ _ _ _ (both_tied _ _ _ _ (both_tied _ _ _ _ (unsigned_ties a.number b.number) (texts_ties a.text b.text)) (texts_ties a.second b.second)) (texts_ties a.third b.third)) (unsigned_ties a.place b.place)

-- no number is below 0
pub zero_least : (n : ℕ) → is_lt (nat_cmp n 0) ≡ false
zero_least n = by (nat_lt n 0) (n == 0) refl
  where
    by : (s t : Bool) → nat_lt n 0 ≡ s → is_lt (cond s Less (cond t Equal Greater)) ≡ false
    by true t e = absurd (omega (arith, ltb-true n 0 e))
    by false true e = refl
    by false false e = refl

not_Greater : (r o : Ordering) → ordering_then r o ≡ Less → r ≡ Greater → ⊥
not_Greater r o e g = true≢false (sym (ap is_lt e) ∙ ap (λ s. is_lt (ordering_then s o)) g)

-- In a list in order, the rows that pass a test stand together, from the first that isn't before them.
module _ {X : Type 0} (key : X → RowKey) (g before : X → Bool) (none_before : (x : X) → g x ≡ true → before x ≡ false)
    (none_behind : (x y : X) → before x ≡ false → g x ≡ false → row_cmp key x y ≡ Less → g y ≡ false) where
  none_later : (x : X) (xs : List X) → AllByRecursion (λ y. row_cmp key x y ≡ Less) xs → before x ≡ false → g x ≡ false → AllAre g false xs
  none_later x [] h nb ng = tt
  none_later x (y ∷ ys) h nb ng = (none_behind x y nb ng h.0, none_later x ys h.1 nb ng)

  leading_is : (xs : List X) → IsInOrder key xs → AllAre before false xs → leading g xs ≡ filter g xs
  unfolding IsStrictlySortedBy
  leading_is [] s h = refl
  leading_is (x ∷ xs) s h = by (g x) refl (leading_is xs s.1 h.1)
    where
      by : (b : Bool) → g x ≡ b → leading g xs ≡ filter g xs → cond b (x ∷ leading g xs) [] ≡ cond b (x ∷ filter g xs) (filter g xs)
      by true e rest = ap (λ l. x ∷ l) rest
      by false e rest = sym (filter-failing g xs (none_later x xs s.0 h.0 e))

  pub leading_from : (rows : List X) → IsInOrder key rows → Falls before rows → leading g (filter (λ r. not (before r)) rows) ≡ filter g rows
  leading_from rows order falls =
      let q : X → Bool = λ r. not (before r) in
      leading_is (filter q rows) (IsStrictlySortedBy-filter (row_cmp key) q rows order) (AllAre-back before (filter q rows) (filter-keeps q rows))
      ∙ ap (λ l. l ++ filter g (filter q rows)) (sym (filter-failing g (filter before rows) (none-filter g before none_before rows)))
      ∙ sym (filter-append g (filter before rows) (filter q rows)) ∙ ap (filter g) (sym (falls_cut before rows falls))

module _ {X : Type 0} (key : X → RowKey) (k : RowKey) where
  abbrev g : X → Bool
  g = is_in_group key k

  abbrev first : X → Bool
  first = is_below key (first_key k)

  in_group_not_below : (x : X) → g x ≡ true → first x ≡ false
  in_group_not_below x e =
      let same : group_cmp (key x) k ≡ Equal = (Equal-is (group_cmp (key x) k)).0 (sym (group_eq (key x) k) ∙ e) in
      ap (λ r. is_lt (ordering_then r (nat_cmp (key x).item 0))) same ∙ zero_least (key x).item

  -- a row that is neither below the group nor in it is above it
  is_above : (x : X) → first x ≡ false → g x ≡ false → group_cmp (key x) k ≡ Greater
  is_above x nb ng = by (group_cmp (key x) k) refl
    where
      by : (r : Ordering) → group_cmp (key x) k ≡ r → group_cmp (key x) k ≡ Greater
      by Less e = absurd (true≢false (sym (ap (λ s. is_lt (ordering_then s (nat_cmp (key x).item 0))) e) ∙ nb))
      by Equal e = absurd (true≢false (sym (group_eq (key x) k ∙ ap is_eq e) ∙ ng))
      by Greater e = e

  not_in_later : (x y : X) → first x ≡ false → g x ≡ false → row_cmp key x y ≡ Less → g y ≡ false
  not_in_later x y nb ng less = by (g y) refl
    where
      by : (b : Bool) → g y ≡ b → g y ≡ false
      by false q = q
      by true q =
          let same : group_cmp (key y) k ≡ Equal = (Equal-is (group_cmp (key y) k)).0 (sym (group_eq (key y) k) ∙ q) in
          absurd (not_Greater (group_cmp (key x) (key y)) (nat_cmp (key x).item (key y).item) less (alike_right group_total (key y) k (key x) same ∙ is_above x nb ng))

  pub group_is : (rows : List X) → IsInOrder key rows → leading g (rows_from key (first_key k) rows) ≡ filter g rows
  group_is rows order = leading_from key g first in_group_not_below not_in_later rows order (below_falls key (first_key k) rows order)
