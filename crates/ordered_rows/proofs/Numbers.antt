-- The rows of one number, and a number that no row has.
use Rattle.std.proofs.Common.{◌≡◌, ℕ, ◌+◌, ◌-◌, ◌^◌, ◌<◌, ◌≤◌, Bool, true, false, not, cond, ◌||◌, ◌==◌, nat_lt, List, [], ◌∷◌, ◌++◌, Option, Some, None, MatchOption, MatchBool, inl, inr, refl, sym, ap, ◌∙◌, subst, arith}
use mathlib.Core.Bool.{true≢false}
use borrow.Author.Tests.{ltb-false, eqb-true, eq-eqb}
use Rattle.std.proofs.lemmas.Bool.{cases_lt}
use Rattle.std.specs.declared.cmp.Ordering.TheVariants.{Less, Equal, Greater}
use Rattle.std.specs.Ordering.{is_lt, is_eq, ordering_then, nat_cmp}
use Rattle.std.specs.Cmp.{tied_itself, second_so, nat_cmp_total}
use Rattle.std.specs.Cmp.Lexicographic.{slice_cmp, nat_list_cmp_total}
use Rattle.std.specs.List.{filter, find, list_any, AllByRecursion}
use Rattle.std.specs.List.Sorted.{IsStrictlySortedBy}
use Rattle.ordered_rows.specs.RowKey.{RowKey, key_cmp, number_key}
use Rattle.ordered_rows.specs.Listed.{row_cmp, IsInOrder, has_key, is_below, row_at, rows_from, with_row, last_row, leading, has_number, IsLeastFree, IsNewNumber}
use Rattle.ordered_rows.proofs.Cuts.{AllAre, AllAre-append, AllAre-not, Falls, passes_before, filter-passing, filter-failing}
use Rattle.ordered_rows.proofs.Keys.{below_falls, below_none, find-none, same_eq, same_itself}
use Rattle.ordered_rows.proofs.AfterEdits.{split_last}
use Rattle.ordered_rows.proofs.Groups.{leading_from}
use Rattle.ordered_rows.proofs.FreeNumbers.{below_number, not_greater}

lesser_is_below : (a : RowKey) (n : ℕ) → a.number < n → is_lt (key_cmp a (number_key n)) ≡ true
lesser_is_below a n lt = by (nat_lt a.number n) refl
  where
    by : (s : Bool) → nat_lt a.number n ≡ s → is_lt (key_cmp a (number_key n)) ≡ true
    by true e = ap (λ s. is_lt (ordering_then (ordering_then (ordering_then (ordering_then (ordering_then (cond s Less (cond (a.number == n) Equal Greater)) (slice_cmp nat_cmp a.text [])) (slice_cmp nat_cmp a.second [])) (slice_cmp nat_cmp a.third [])) (nat_cmp a.place 0)) (nat_cmp a.item 0))) e
    by false e = absurd (omega (arith, ltb-false a.number n e))

module _ {X : Type 0} (key : X → RowKey) (n : ℕ) where
  abbrev g : X → Bool
  g = has_number key n

  abbrev before : X → Bool
  before = is_below key (number_key n)

  number_not_below : (x : X) → g x ≡ true → before x ≡ false
  number_not_below x e = by (before x) refl
    where
      by : (b : Bool) → before x ≡ b → b ≡ false
      by false q = refl
      by true q = absurd (omega (arith, below_number (key x) n q, eqb-true (key x).number n e))

  number_not_later : (x y : X) → before x ≡ false → g x ≡ false → row_cmp key x y ≡ Less → g y ≡ false
  number_not_later x y nb ng less = by (g y) refl
    where
      at_least : n ≤ (key x).number
      at_least = elim (cases_lt (key x).number n) [ inl lt ↦ absurd (true≢false (sym (lesser_is_below (key x) n lt) ∙ nb)) | inr le ↦ le ]

      by : (b : Bool) → g y ≡ b → b ≡ false
      by false q = refl
      by true q =
          let same : (key y).number ≡ n = eqb-true (key y).number n q in
          elim (cases_lt n (key x).number) [
            | inl above ↦ absurd (not_greater (key x) (key y) less (omega (arith, same, above)))
            | inr under ↦ absurd (true≢false (sym (eq-eqb (key x).number n (omega (arith, under, at_least))) ∙ ng))
          ]

  pub numbered_is : (rows : List X) → IsInOrder key rows → leading g (rows_from key (number_key n) rows) ≡ filter g rows
  numbered_is rows order = leading_from key g before number_not_below number_not_later rows order (below_falls key (number_key n) rows order)

  not_its_key : (x : X) → g x ≡ false → has_key key (number_key n) x ≡ false
  not_its_key x e = by (has_key key (number_key n) x) refl
    where
      by : (b : Bool) → has_key key (number_key n) x ≡ b → b ≡ false
      by false q = refl
      by true q = absurd (true≢false (sym (second_so _ ((key x).number == n) q) ∙ e))

  none_numbered : (rows : List X) → list_any g rows ≡ false → AllAre (has_key key (number_key n)) false rows
  none_numbered [] e = tt
  none_numbered (x ∷ rows) e = by (g x) refl e (λ h. none_numbered rows h)
    where
      by : (b : Bool) → g x ≡ b → (b || list_any g rows) ≡ false → (list_any g rows ≡ false → AllAre (has_key key (number_key n)) false rows) → AllAre (has_key key (number_key n)) false (x ∷ rows)
      by true q h rest = absurd (true≢false h)
      by false q h rest = (not_its_key x q, rest h)

  none_above : (rows : List X) (last : X) → IsInOrder key rows → last_row rows ≡ Some last → (key last).number < n → AllAre (has_key key (number_key n)) false rows
  none_above rows last order e lt =
      let s = split_last rows last e in
      let below = lesser_is_below (key last) n lt in
      let front = passes_before before s.0 last [] (subst (Falls before) s.1 (below_falls key (number_key n) rows order)) below in
      below_none key (number_key n) rows (subst (AllAre before true) (sym s.1) (AllAre-append before true s.0 (last ∷ []) front (below, tt)))

no_last : {X : Type 0} (rows : List X) → last_row rows ≡ None → rows ≡ []
no_last [] e = refl
no_last {X} (x ∷ []) e = absurd (some_none x e)
  where
    some_none : (y : X) → Some y ≡ None → ⊥
    some_none y q = cc
no_last (x ∷ y ∷ rows) e = absurd (some_row y rows e)
  where
    some_row : {X : Type 0} (z : X) (zs : List X) → last_row (z ∷ zs) ≡ None → ⊥
    some_row z [] q = cc
    some_row z (w ∷ zs) q = some_row w zs q

pub number_is_new : {X : Type 0} (key : X → RowKey) (rows : List X) (n : ℕ) → IsInOrder key rows → IsNewNumber key rows n → row_at key (number_key n) rows ≡ None
number_is_new {X} key rows n order h = find-none (has_key key (number_key n)) rows (by (last_row rows) refl h)
  where
    greatest : (last : X) → last_row rows ≡ Some last → (b : Bool) → MatchBool b (n ≡ (key last).number + 1) (IsLeastFree key 1 rows n) → AllAre (has_key key (number_key n)) false rows
    greatest last e true m = none_above key n rows last order e (omega (arith, m))
    greatest last e false m = none_numbered key n rows m.free

    by : (o : Option X) → last_row rows ≡ o → MatchOption o (n ≡ 1) (λ last. MatchBool (nat_lt (key last).number (2 ^ 64 - 1)) (n ≡ (key last).number + 1) (IsLeastFree key 1 rows n)) → AllAre (has_key key (number_key n)) false rows
    by None e m = subst (AllAre (has_key key (number_key n)) false) (sym (no_last rows e)) tt
    by (Some last) e m = greatest last e (nat_lt (key last).number (2 ^ 64 - 1)) m

-- a row above all others goes behind them
all_below : {X : Type 0} (key : X → RowKey) (k : RowKey) (rows : List X) → AllByRecursion (λ r. is_below key k r ≡ true) rows → AllAre (is_below key k) true rows
all_below key k [] h = tt
all_below key k (x ∷ rows) h = (h.0, all_below key k rows h.1)

pub behind_all : {X : Type 0} (key : X → RowKey) (row : X) (rows : List X) → AllByRecursion (λ r. is_below key (key row) r ≡ true) rows → with_row key row rows ≡ rows ++ row ∷ []
behind_all {X} key row rows h =
    let p : X → Bool = is_below key (key row) in
    let all = all_below key (key row) rows h in
    ap (λ r. r ++ row ∷ rows_from key (key row) rows) (filter-passing p rows all) ∙ ap (λ r. rows ++ row ∷ r) (filter-failing (λ x. not (p x)) rows (AllAre-not p true rows all))

-- keys that differ in their places alone compare as these
pub places_lt : (k : RowKey) (a b : ℕ) → is_lt (key_cmp (record k { place = a }) (record k { place = b })) ≡ nat_lt a b
places_lt k a b =
    ap (λ r. is_lt (ordering_then (ordering_then (ordering_then (ordering_then (ordering_then r (slice_cmp nat_cmp k.text k.text)) (slice_cmp nat_cmp k.second k.second)) (slice_cmp nat_cmp k.third k.third)) (nat_cmp a b)) (nat_cmp k.item k.item))) (tied_itself nat_cmp_total k.number)
    ∙ ap (λ r. is_lt (ordering_then (ordering_then (ordering_then (ordering_then r (slice_cmp nat_cmp k.second k.second)) (slice_cmp nat_cmp k.third k.third)) (nat_cmp a b)) (nat_cmp k.item k.item))) (tied_itself nat_list_cmp_total k.text)
    ∙ ap (λ r. is_lt (ordering_then (ordering_then (ordering_then r (slice_cmp nat_cmp k.third k.third)) (nat_cmp a b)) (nat_cmp k.item k.item))) (tied_itself nat_list_cmp_total k.second)
    ∙ ap (λ r. is_lt (ordering_then (ordering_then r (nat_cmp a b)) (nat_cmp k.item k.item))) (tied_itself nat_list_cmp_total k.third)
    ∙ ap (λ r. is_lt (ordering_then (nat_cmp a b) r)) (tied_itself nat_cmp_total k.item) ∙ last (nat_lt a b) (a == b)
  where
    last : (s t : Bool) → is_lt (ordering_then (cond s Less (cond t Equal Greater)) Equal) ≡ s
    last true t = refl
    last false true = refl
    last false false = refl

-- in order, no row has the key of one behind it
found_holds : {X : Type 0} (P : X → Type 0) (g : X → Bool) (rows : List X) (row : X) → AllByRecursion P rows → find g rows ≡ Some row → P row
found_holds P g [] row h e = absurd (none_some row e)
  where
    none_some : {X : Type 0} (x : X) → None ≡ Some x → ⊥
    none_some x q = cc
found_holds {X} P g (x ∷ rows) row h e = by (g x) e (λ q. found_holds P g rows row h.1 q)
  where
    by : (b : Bool) → cond b (Some x) (find g rows) ≡ Some row → (find g rows ≡ Some row → P row) → P row
    by true q rest = let same : x ≡ row = cc in subst P same h.0
    by false q rest = rest q

pub at_its_key : {X : Type 0} (key : X → RowKey) (g : X → Bool) (row : X) (rows : List X) → IsInOrder key rows → find g rows ≡ Some row → row_at key (key row) rows ≡ Some row
unfolding IsStrictlySortedBy
at_its_key key g row [] order e = e
at_its_key {X} key g row (x ∷ rows) order e = by (g x) e (λ q. at_its_key key g row rows order.1 q)
  where
    by : (b : Bool) → cond b (Some x) (find g rows) ≡ Some row → (find g rows ≡ Some row → row_at key (key row) rows ≡ Some row) → cond (has_key key (key row) x) (Some x) (row_at key (key row) rows) ≡ Some row
    by true q rest =
        let same : x ≡ row = cc in
        ap (λ b. cond b (Some x) (row_at key (key row) rows)) (subst (λ r. has_key key (key r) x ≡ true) same (same_itself (key x))) ∙ q
    by false q rest =
        let less : row_cmp key x row ≡ Less = found_holds (λ y. row_cmp key x y ≡ Less) g rows row order.0 q in
        ap (λ b. cond b (Some x) (row_at key (key row) rows)) (same_eq (key x) (key row) ∙ ap is_eq less) ∙ rest q

pub all_at_keys : {X : Type 0} (key : X → RowKey) (rows : List X) → IsInOrder key rows → AllByRecursion (λ r. row_at key (key r) rows ≡ Some r) rows
unfolding IsStrictlySortedBy
all_at_keys key [] order = tt
all_at_keys {X} key (x ∷ rows) order = (ap (λ b. cond b (Some x) (row_at key (key x) rows)) (same_itself (key x)), later rows order.0 (all_at_keys key rows order.1))
  where
    later : (ys : List X) → AllByRecursion (λ y. row_cmp key x y ≡ Less) ys → AllByRecursion (λ y. row_at key (key y) rows ≡ Some y) ys → AllByRecursion (λ y. row_at key (key y) (x ∷ rows) ≡ Some y) ys
    later [] less at = tt
    later (y ∷ ys) less at = (ap (λ b. cond b (Some x) (row_at key (key y) rows)) (same_eq (key x) (key y) ∙ ap is_eq less.0) ∙ at.0, later ys less.1 at.1)
