-- The first row from a key on that has the key's number.
use Rattle.std.proofs.Common.{◌≡◌, ◌<◌, ◌≤◌, Bool, true, false, not, cond, ◌&&◌, ◌==◌, nat_lt, List, [], ◌∷◌, Some, None, inl, inr, refl, sym, ap, ◌∙◌, subst, arith}
use mathlib.Core.Bool.{true≢false}
use borrow.Author.Tests.{ltb-false, eq-eqb}
use Rattle.std.proofs.lemmas.Bool.{cases_lt}
use Rattle.std.proofs.lemmas.List.Kept.{IsStrictlySortedBy-filter}
use Rattle.std.specs.declared.cmp.Ordering.TheVariants.{Less, Equal, Greater}
use Rattle.std.specs.Ordering.{is_lt, ordering_then, nat_cmp}
use Rattle.std.specs.Cmp.Lexicographic.{slice_cmp}
use Rattle.std.specs.List.{filter, find, AllByRecursion}
use Rattle.std.specs.List.Sorted.{IsStrictlySortedBy}
use Rattle.ordered_rows.specs.RowKey.{RowKey, key_cmp}
use Rattle.ordered_rows.specs.Listed.{row_cmp, IsInOrder, is_below, rows_from, has_number, is_from}
use Rattle.ordered_rows.proofs.Cuts.{AllAre, AllAre-back, filter-keeps}
use Rattle.ordered_rows.proofs.Keys.{find-none}
use Rattle.ordered_rows.proofs.Firsts.{other_number}
use Rattle.ordered_rows.proofs.FreeNumbers.{not_greater}

find-both : {X : Type 0} (p h : X → Bool) (xs : List X) → find (λ x. not (p x) && h x) xs ≡ find h (filter (λ x. not (p x)) xs)
find-both p h [] = refl
find-both {X} p h (x ∷ xs) = by (p x) (find-both p h xs)
  where
    by : (b : Bool) → find (λ y. not (p y) && h y) xs ≡ find h (filter (λ y. not (p y)) xs)
        → cond (not b && h x) (Some x) (find (λ y. not (p y) && h y) xs) ≡ find h (cond (not b) (x ∷ filter (λ y. not (p y)) xs) (filter (λ y. not (p y)) xs))
    by true rest = rest
    by false rest = ap (cond (h x) (Some x)) rest

lesser_number_is_below : (a k : RowKey) → a.number < k.number → is_lt (key_cmp a k) ≡ true
lesser_number_is_below a k lt = by (nat_lt a.number k.number) refl
  where
    by : (s : Bool) → nat_lt a.number k.number ≡ s → is_lt (key_cmp a k) ≡ true
    by true e = ap (λ s. is_lt (ordering_then (ordering_then (ordering_then (ordering_then (ordering_then (cond s Less (cond (a.number == k.number) Equal Greater)) (slice_cmp nat_cmp a.text k.text)) (slice_cmp nat_cmp a.second k.second)) (slice_cmp nat_cmp a.third k.third)) (nat_cmp a.place k.place)) (nat_cmp a.item k.item))) e
    by false e = absurd (omega (arith, ltb-false a.number k.number e))

module _ {X : Type 0} (key : X → RowKey) (k : RowKey) where
  at_least : (x : X) → is_below key k x ≡ false → k.number ≤ (key x).number
  at_least x nb = elim (cases_lt (key x).number k.number) [ inl lt ↦ absurd (true≢false (sym (lesser_number_is_below (key x) k lt) ∙ nb)) | inr le ↦ le ]

  none_numbered : (x : X) (ys : List X) → AllByRecursion (λ y. row_cmp key x y ≡ Less) ys → k.number < (key x).number → AllAre (has_number key k.number) false ys
  none_numbered x [] h lt = tt
  none_numbered x (y ∷ ys) h lt = (other_number (key y).number k.number (λ e. not_greater (key x) (key y) h.0 (omega (arith, e, lt))), none_numbered x ys h.1 lt)

  above : (x : X) → is_below key k x ≡ false → has_number key k.number x ≡ false → k.number < (key x).number
  above x nb differs = elim (cases_lt k.number (key x).number) [
    | inl lt ↦ lt
    | inr le ↦ absurd (true≢false (sym (eq-eqb (key x).number k.number (omega (arith, at_least x nb, le))) ∙ differs))
  ]

  other_behind : (x : X) (xs : List X) → IsInOrder key (x ∷ xs) → is_below key k x ≡ false → has_number key k.number x ≡ false → find (has_number key k.number) (x ∷ xs) ≡ None
  unfolding IsStrictlySortedBy
  other_behind x xs order nb differs = find-none (has_number key k.number) (x ∷ xs) (differs, none_numbered x xs order.0 (above x nb differs))

  module _ (rows : List X) where
    pub from_none : rows_from key k rows ≡ [] → find (is_from key k) rows ≡ None
    from_none e = find-both (is_below key k) (has_number key k.number) rows ∙ ap (find (has_number key k.number)) e

    pub from_some : (x : X) (xs : List X) → rows_from key k rows ≡ x ∷ xs → has_number key k.number x ≡ true → find (is_from key k) rows ≡ Some x
    from_some x xs e same =
        find-both (is_below key k) (has_number key k.number) rows ∙ ap (find (has_number key k.number)) e ∙ ap (λ b. cond b (Some x) (find (has_number key k.number) xs)) same

    pub from_other : (x : X) (xs : List X) → IsInOrder key rows → rows_from key k rows ≡ x ∷ xs → has_number key k.number x ≡ false → find (is_from key k) rows ≡ None
    from_other x xs order e differs =
        let kept : AllAre (λ r. not (is_below key k r)) true (x ∷ xs) = subst (AllAre (λ r. not (is_below key k r)) true) e (filter-keeps (λ r. not (is_below key k r)) rows) in
        let not_below = AllAre-back (is_below key k) (x ∷ xs) kept in
        find-both (is_below key k) (has_number key k.number) rows ∙ ap (find (has_number key k.number)) e
        ∙ other_behind x xs (subst (IsInOrder key) e (IsStrictlySortedBy-filter (row_cmp key) (λ r. not (is_below key k r)) rows order)) not_below.0 differs
