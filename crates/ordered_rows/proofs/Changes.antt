-- A replacement as a removal and an insertion, and how many rows pass a test after a change.
use Rattle.std.proofs.Common.{◌≡◌, ℕ, suc, ◌+◌, Bool, true, false, not, cond, if◌then◌else◌, List, [], ◌∷◌, ◌++◌, length, Some, IsSome, refl, sym, ap, ◌∙◌, subst, arith}
use mathlib.Core.Bool.{true≢false}
use Rattle.std.specs.List.{filter}
use Rattle.std.specs.List.Sorted.{IsStrictlySortedBy}
use Rattle.ordered_rows.specs.RowKey.{RowKey}
use Rattle.ordered_rows.specs.Listed.{IsInOrder, has_key, is_below, row_at, with_row, with_replaced, without}
use Rattle.ordered_rows.proofs.Keys.{has-not_below, none_behind, find-none, length-with_row, each_later}
use Rattle.ordered_rows.proofs.Groups.{filtered_same, filtered_other}
use Rattle.ordered_rows.proofs.Cuts.{AllAre, AllAre-not, filter-passing, filter-failing}

module _ {X : Type 0} (key : X → RowKey) (row : X) where
  abbrev here : X → Bool
  here = has_key key (key row)

  abbrev below : X → Bool
  below = is_below key (key row)

  none_replaced : (rows : List X) → AllAre here false rows → with_replaced key row rows ≡ rows
  none_replaced [] h = refl
  none_replaced (x ∷ rows) h = ap (λ b. (if b then row else x) ∷ with_replaced key row rows) h.0 ∙ ap (λ l. x ∷ l) (none_replaced rows h.1)

  pub replaced_is : (rows : List X) → IsInOrder key rows → IsSome (row_at key (key row) rows) → with_replaced key row rows ≡ with_row key row (without key (key row) rows)
  unfolding IsStrictlySortedBy
  replaced_is [] order there = absurd (true≢false (sym there))
  replaced_is (x ∷ rows) order there = by (here x) (below x) refl refl there (λ h. replaced_is rows order.1 h)
    where
      by : (a b : Bool) → here x ≡ a → below x ≡ b → IsSome (cond a (Some x) (row_at key (key row) rows)) → (IsSome (row_at key (key row) rows) → with_replaced key row rows ≡ with_row key row (without key (key row) rows))
          → (if a then row else x) ∷ with_replaced key row rows ≡ with_row key row (cond (not a) (x ∷ without key (key row) rows) (without key (key row) rows))
      by true b q p t rest =
          let nb : below x ≡ false = has-not_below key (key row) x q in
          let none = none_behind key (key row) x rows order nb in
          let later = each_later key (key row) x rows order.0 nb in
          let same : without key (key row) rows ≡ rows = filter-passing (λ r. not (here r)) rows (AllAre-not here false rows none) in
          ap (λ l. row ∷ l) (none_replaced rows none)
          ∙ sym (ap (with_row key row) same ∙ ap (λ l. l ++ row ∷ filter (λ r. not (below r)) rows) (filter-failing below rows later) ∙ ap (λ l. row ∷ l) (filter-passing (λ r. not (below r)) rows (AllAre-not below false rows later)))
      by false true q p t rest =
          ap (λ l. x ∷ l) (rest t)
          ∙ sym (ap (λ c. cond c (x ∷ filter below (without key (key row) rows)) (filter below (without key (key row) rows)) ++ row ∷ cond (not c) (x ∷ filter (λ r. not (below r)) (without key (key row) rows)) (filter (λ r. not (below r)) (without key (key row) rows))) p)
      by false false q p t rest = absurd (true≢false (sym (subst IsSome (find-none here rows (none_behind key (key row) x rows order p)) t)))

longer : (m n c l : ℕ) → m ≡ suc n → n + c ≡ l → m + c ≡ suc l
longer m n c l e h = omega arith

module _ {X : Type 0} (key : X → RowKey) (g : X → Bool) where
  pub count_with : (row : X) (rows : List X) → IsInOrder key rows → length (filter g (with_row key row rows)) ≡ length (filter g rows) + (if g row then 1 else 0)
  count_with row rows order = by (g row) refl
    where
      by : (b : Bool) → g row ≡ b → length (filter g (with_row key row rows)) ≡ length (filter g rows) + (if b then 1 else 0)
      by true q = ap length (filtered_same key g row rows q) ∙ length-with_row key row (filter g rows)
      by false q = let same = ap length (filtered_other key g row rows q order) in omega (arith, same)

  pub count_without : (k : RowKey) (row : X) (rows : List X) → IsInOrder key rows → row_at key k rows ≡ Some row → length (filter g (without key k rows)) + (if g row then 1 else 0) ≡ length (filter g rows)
  unfolding IsStrictlySortedBy
  count_without k row [] order there = cc
  count_without k row (x ∷ rows) order there = by (has_key key k x) (g x) refl refl there (λ h. count_without k row rows order.1 h)
    where
      by : (a b : Bool) → has_key key k x ≡ a → g x ≡ b → cond a (Some x) (row_at key k rows) ≡ Some row → (row_at key k rows ≡ Some row → length (filter g (without key k rows)) + (if g row then 1 else 0) ≡ length (filter g rows))
          → length (filter g (cond (not a) (x ∷ without key k rows) (without key k rows))) + (if g row then 1 else 0) ≡ length (cond b (x ∷ filter g rows) (filter g rows))
      by true b q p t rest =
          let none = none_behind key k x rows order (has-not_below key k x q) in
          let same : without key k rows ≡ rows = filter-passing (λ r. not (has_key key k r)) rows (AllAre-not (has_key key k) false rows none) in
          let row_is : x ≡ row = cc in
          let b_is : g row ≡ b = subst (λ r. g r ≡ b) row_is p in
          ap (λ l. length (filter g l) + (if g row then 1 else 0)) same ∙ ap (λ c. length (filter g rows) + (if c then 1 else 0)) b_is ∙ last b
        where
          last : (c : Bool) → length (filter g rows) + (if c then 1 else 0) ≡ length (cond c (x ∷ filter g rows) (filter g rows))
          last true = omega arith
          last false = omega arith
      by false true q p t rest =
          let more = rest t in
          let kept : length (cond (g x) (x ∷ filter g (without key k rows)) (filter g (without key k rows))) ≡ suc (length (filter g (without key k rows))) = ap (λ c. length (cond c (x ∷ filter g (without key k rows)) (filter g (without key k rows)))) p in
          longer _ (length (filter g (without key k rows))) (if g row then 1 else 0) (length (filter g rows)) kept more
      by false false q p t rest = ap (λ c. length (cond c (x ∷ filter g (without key k rows)) (filter g (without key k rows))) + (if g row then 1 else 0)) p ∙ rest t
