-- A walk over the rows for a number that none has.
use Rattle.std.proofs.Common.{◌≡◌, ◌≢◌, ℕ, ◌+◌, ◌<◌, ◌≤◌, Bool, true, false, not, cond, ◌||◌, ◌==◌, nat_lt, List, [], ◌∷◌, length, inl, inr, refl, sym, ap, ◌∙◌, subst, arith}
use mathlib.Core.Bool.{true≢false}
use borrow.Author.Tests.{ltb-true, eqb-true, eq-eqb}
use Rattle.std.proofs.lemmas.Bool.{cases_lt}
use Rattle.std.proofs.lemmas.List.Folds.{list_any-append}
use Rattle.std.proofs.lemmas.List.Filters.{length-filter_both}
use Rattle.std.proofs.lemmas.List.Kept.{IsStrictlySortedBy-filter}
use Rattle.std.specs.declared.cmp.Ordering.{Ordering}
use Rattle.std.specs.declared.cmp.Ordering.TheVariants.{Less, Equal, Greater}
use Rattle.std.specs.Ordering.{is_lt, is_gt, ordering_then, nat_cmp}
use Rattle.std.specs.Cmp.Lexicographic.{slice_cmp}
use Rattle.std.specs.List.{filter, list_any, AllByRecursion}
use Rattle.std.specs.List.Sorted.{IsStrictlySortedBy}
use Rattle.ordered_rows.specs.RowKey.{RowKey, key_cmp, number_key}
use Rattle.ordered_rows.specs.Listed.{row_cmp, IsInOrder, is_below, rows_from, has_number, IsLeastFree}
use Rattle.ordered_rows.proofs.Cuts.{AllAre, falls_cut, filter-keeps}
use Rattle.ordered_rows.proofs.Keys.{below_falls}
use Rattle.ordered_rows.proofs.Groups.{zero_least}

-- free was reached, and left are the rows that may have it or a greater number
pub record IsWalk {X : Type 0} (key : X → RowKey) (start : ℕ) (rows left : List X) (free : ℕ) : Type 0 where
  pub from : start ≤ free
  pub room : free + length left ≤ start + length rows
  pub had : (m : ℕ) → start ≤ m → m < free → list_any (has_number key m) rows ≡ true
  pub rest : (m : ℕ) → free ≤ m → list_any (has_number key m) rows ≡ list_any (has_number key m) left
  pub order : IsInOrder key left

pub nat_Less : (a b : ℕ) → is_lt (nat_cmp a b) ≡ true → a < b
nat_Less a b e = by (nat_lt a b) (a == b) refl e
  where
    by : (s t : Bool) → nat_lt a b ≡ s → is_lt (cond s Less (cond t Equal Greater)) ≡ true → a < b
    by true t q e = ltb-true a b q
    by false true q e = absurd (true≢false (sym e))
    by false false q e = absurd (true≢false (sym e))

nat_Greater : (a b : ℕ) → b < a → is_gt (nat_cmp a b) ≡ true
nat_Greater a b lt = by (nat_lt a b) (a == b) refl refl
  where
    by : (s t : Bool) → nat_lt a b ≡ s → (a == b) ≡ t → is_gt (cond s Less (cond t Equal Greater)) ≡ true
    by true t q e = absurd (omega (arith, ltb-true a b q))
    by false true q e = absurd (omega (arith, eqb-true a b e))
    by false false q e = refl

-- the first of two decides where the second isn't `Less`
first_lt : (r o : Ordering) → is_lt (ordering_then r o) ≡ true → is_lt o ≡ false → is_lt r ≡ true
first_lt Less o e n = refl
first_lt Equal o e n = absurd (true≢false (sym e ∙ n))
first_lt Greater o e n = absurd (true≢false (sym e))

first_gt : (r o : Ordering) → is_gt r ≡ true → is_lt (ordering_then r o) ≡ false
first_gt Less o e = absurd (true≢false (sym e))
first_gt Equal o e = absurd (true≢false (sym e))
first_gt Greater o e = refl

still_gt : (r o : Ordering) → is_gt r ≡ true → is_gt (ordering_then r o) ≡ true
still_gt Less o e = absurd (true≢false (sym e))
still_gt Equal o e = absurd (true≢false (sym e))
still_gt Greater o e = refl

none_least : (text : List ℕ) → is_lt (slice_cmp nat_cmp text []) ≡ false
none_least [] = refl
none_least (x ∷ text) = refl

pub below_number : (a : RowKey) (s : ℕ) → is_lt (key_cmp a (number_key s)) ≡ true → a.number < s
below_number a s e =
    nat_Less a.number s
    (first_lt (nat_cmp a.number s) (slice_cmp nat_cmp a.text [])
    (first_lt (ordering_then (nat_cmp a.number s) (slice_cmp nat_cmp a.text [])) (slice_cmp nat_cmp a.second [])
    (first_lt (ordering_then (ordering_then (nat_cmp a.number s) (slice_cmp nat_cmp a.text [])) (slice_cmp nat_cmp a.second [])) (slice_cmp nat_cmp a.third [])
    (first_lt (ordering_then (ordering_then (ordering_then (nat_cmp a.number s) (slice_cmp nat_cmp a.text [])) (slice_cmp nat_cmp a.second [])) (slice_cmp nat_cmp a.third [])) (nat_cmp a.place 0)
    (first_lt (ordering_then (ordering_then (ordering_then (ordering_then (nat_cmp a.number s) (slice_cmp nat_cmp a.text [])) (slice_cmp nat_cmp a.second [])) (slice_cmp nat_cmp a.third [])) (nat_cmp a.place 0)) (nat_cmp a.item 0)
    e (zero_least a.item)) (zero_least a.place)) (none_least a.third)) (none_least a.second)) (none_least a.text))

-- a key below another has no greater number
pub not_greater : (a b : RowKey) → key_cmp a b ≡ Less → b.number < a.number → ⊥
not_greater a b e lt =
    let g = nat_Greater a.number b.number lt in
    true≢false (sym (ap is_lt e) ∙ first_gt _ (nat_cmp a.item b.item) (still_gt _ (nat_cmp a.place b.place) (still_gt _ (slice_cmp nat_cmp a.third b.third) (still_gt _ (slice_cmp nat_cmp a.second b.second) (still_gt (nat_cmp a.number b.number) (slice_cmp nat_cmp a.text b.text) g)))))

pub other_number : (a b : ℕ) → a ≢ b → (a == b) ≡ false
other_number a b n = by (a == b) refl
  where
    by : (t : Bool) → (a == b) ≡ t → t ≡ false
    by true e = absurd (n (eqb-true a b e))
    by false e = refl

module _ {X : Type 0} (key : X → RowKey) (start : ℕ) (rows : List X) where
  none_below : (m : ℕ) (xs : List X) → start ≤ m → AllAre (is_below key (number_key start)) true xs → list_any (has_number key m) xs ≡ false
  none_below m [] le h = refl
  none_below m (x ∷ xs) le h =
      let lt : (key x).number < start = below_number (key x) start h.0 in
      let differ : (key x).number ≢ m = λ e. absurd (omega (arith, e, lt, le)) in
      ap (λ b. b || list_any (has_number key m) xs) (other_number (key x).number m differ) ∙ none_below m xs le h.1

  pub walk_start : IsInOrder key rows → IsWalk key start rows (rows_from key (number_key start) rows) start
  walk_start order =
      let p : X → Bool = is_below key (number_key start) in
      let q : X → Bool = λ r. not (p r) in
      let whole = falls_cut p rows (below_falls key (number_key start) rows order) in
      record {
        from = omega arith;
        room = omega (arith, length-filter_both p q (λ r. refl) rows);
        had = λ m le lt. absurd (omega arith);
        rest = λ m le. ap (list_any (has_number key m)) whole ∙ list_any-append (has_number key m) (filter p rows) (filter q rows) ∙ ap (λ b. b || list_any (has_number key m) (filter q rows)) (none_below m (filter p rows) le (filter-keeps p rows));
        order = IsStrictlySortedBy-filter (row_cmp key) q rows order;
      }

  in_tail : (row : X) (left : List X) → IsInOrder key (row ∷ left) → IsInOrder key left
  unfolding IsStrictlySortedBy
  in_tail row left s = s.1

  skip : (row : X) (left : List X) (free m : ℕ) → IsWalk key start rows (row ∷ left) free → free ≤ m → (key row).number ≢ m → list_any (has_number key m) rows ≡ list_any (has_number key m) left
  skip row left free m w le differ = w.rest m le ∙ ap (λ b. b || list_any (has_number key m) left) (other_number (key row).number m differ)

  pub walk_hit : (row : X) (left : List X) (free : ℕ) → IsWalk key start rows (row ∷ left) free → (key row).number ≡ free → IsWalk key start rows left (free + 1)
  walk_hit row left free w e =
      let here : list_any (has_number key free) rows ≡ true = w.rest free (omega arith) ∙ ap (λ b. b || list_any (has_number key free) left) (eq-eqb (key row).number free e) in
      record {
        from = omega (arith, w.from);
        room = omega (arith, w.room);
        had = λ m le lt. elim (cases_lt m free) [ inl before ↦ w.had m le before | inr at ↦ let same : free ≡ m = omega arith in subst (λ n. list_any (has_number key n) rows ≡ true) same here ];
        rest = λ m le. skip row left free m w (omega arith) (λ q. absurd (omega (arith, q, e, le)));
        order = in_tail row left w.order;
      }

  pub walk_pass : (row : X) (left : List X) (free : ℕ) → IsWalk key start rows (row ∷ left) free → (key row).number < free → IsWalk key start rows left free
  walk_pass row left free w lt = record {
    from = w.from;
    room = omega (arith, w.room);
    had = w.had;
    rest = λ m le. skip row left free m w le (λ q. absurd (omega (arith, q, lt, le)));
    order = in_tail row left w.order;
  }

  pub walk_end : (free : ℕ) → IsWalk key start rows [] free → IsLeastFree key start rows free
  walk_end free w = record { from = w.from; free = w.rest free (omega arith); below = w.had }

  none_behind : (row : X) (free : ℕ) → free < (key row).number → (xs : List X) → AllByRecursion (λ y. row_cmp key row y ≡ Less) xs → list_any (has_number key free) xs ≡ false
  none_behind row free lt [] h = refl
  none_behind row free lt (y ∷ ys) h =
      let differ : (key y).number ≢ free = λ e. not_greater (key row) (key y) h.0 (omega (arith, e, lt)) in
      ap (λ b. b || list_any (has_number key free) ys) (other_number (key y).number free differ) ∙ none_behind row free lt ys h.1

  pub walk_stop : (row : X) (left : List X) (free : ℕ) → IsWalk key start rows (row ∷ left) free → free < (key row).number → IsLeastFree key start rows free
  unfolding IsStrictlySortedBy
  walk_stop row left free w lt = record {
    from = w.from;
    free = skip row left free free w (omega arith) (λ q. absurd (omega (arith, q, lt))) ∙ none_behind row free lt left w.order.0;
    below = w.had;
  }
