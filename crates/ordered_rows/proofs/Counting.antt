-- Tables of counts after a change, and the counts of rows after one.
use Rattle.std.proofs.Common.{◌≡◌, ℕ, ◌+◌, ◌<◌, ◌≤◌, ◌^◌, Bool, true, false, ◌==◌, List, length, Option, Some, None, IsSome, MatchOption, Result, Ok, Err, OnOk, OnErr, if◌then◌else◌, refl, sym, ap, ◌∙◌, subst, arith}
use borrow.Author.Tests.{eqb-true, eq-eqb}
use Rattle.std.specs.Bool.{⊤}
use Rattle.std.specs.List.{count_by}
use Rattle.std.proofs.lemmas.List.Sums.{length-filter, count_by-le-length}
use Rattle.ordered_rows.specs.RowKey.{RowKey, number_key}
use Rattle.ordered_rows.specs.Listed.{IsInOrder, row_at, with_row, with_replaced, without}
use Rattle.ordered_rows.specs.Counts.{AreCounts, count_key, count_in, counted, is_of}
use Rattle.ordered_rows.specs.declared.counts.Count.{Count}
use Rattle.ordered_rows.proofs.AfterEdits.{inserted_same, inserted_other, replaced_same, replaced_other, removed_same, removed_other}
use Rattle.ordered_rows.proofs.Changes.{count_with, count_without, replaced_is}
use Rattle.ordered_rows.proofs.Keys.{order-without}
use Rattle.ordered_rows.proofs.Parted.{with_replaced-none}

-- what a change of the row of one number makes of the counts
abbrev one_if : Bool → ℕ
one_if b = if b then 1 else 0

module _ (m : ℕ) (counts : List Count) where
  -- a count that is set, and one that is dropped
  set_count : (after : List Count) (c : ℕ) → count_in (row_at count_key (number_key m) after) ≡ c
      → ((n : ℕ) → (m == n) ≡ false → row_at count_key (number_key n) after ≡ row_at count_key (number_key n) counts)
      → (n : ℕ) → counted n after ≡ (if m == n then c else counted n counts)
  set_count after c at others n = by (m == n) refl
    where
      by : (b : Bool) → (m == n) ≡ b → counted n after ≡ (if b then c else counted n counts)
      by true e = subst (λ i. counted i after ≡ c) (eqb-true m n e) at
      by false e = ap count_in (others n e)

  pub begun : row_at count_key (number_key m) counts ≡ None → (after : List Count) → after ≡ with_row count_key (record { number = m; count = 0 }) counts → (n : ℕ) → counted n after ≡ counted n counts
  begun none after is n =
      ap (counted n) is ∙ set_count (with_row count_key row counts) 0 (ap count_in (inserted_same count_key row counts)) (λ i e. inserted_other count_key row (number_key i) counts e) n ∙ by (m == n) refl
    where
      row : Count
      row = record { number = m; count = 0 }

      by : (b : Bool) → (m == n) ≡ b → (if b then 0 else counted n counts) ≡ counted n counts
      by true e = sym (ap count_in (subst (λ i. row_at count_key (number_key i) counts ≡ None) (eqb-true m n e) none))
      by false e = refl

  pub is_there : (after : List Count) → after ≡ with_row count_key (record { number = m; count = 0 }) counts → IsSome (row_at count_key (number_key m) after)
  is_there after is = subst IsSome (sym (ap (row_at count_key (number_key m)) is ∙ inserted_same count_key (record { number = m; count = 0 }) counts)) refl

  reset : (c : ℕ) → IsSome (row_at count_key (number_key m) counts) → (n : ℕ) → counted n (with_replaced count_key (record { number = m; count = c }) counts) ≡ (if m == n then c else counted n counts)
  reset c there =
      set_count (with_replaced count_key row counts) c (ap count_in (replaced_same count_key row counts there)) (λ i e. replaced_other count_key row (number_key i) counts e)
    where
      row : Count
      row = record { number = m; count = c }

  pub raised : (c : ℕ) → IsSome (row_at count_key (number_key m) counts) → c ≡ counted m counts + 1 → (n : ℕ) → counted n (with_replaced count_key (record { number = m; count = c }) counts) ≡ counted n counts + (if m == n then 1 else 0)
  raised c there is n = reset c there n ∙ by (m == n) refl
    where
      by : (b : Bool) → (m == n) ≡ b → (if b then c else counted n counts) ≡ counted n counts + (if b then 1 else 0)
      by true e = subst (λ i. c ≡ counted i counts + 1) (eqb-true m n e) is
      by false e = omega arith

  less_one : (c : ℕ) (n : ℕ) → c + 1 ≡ counted m counts → (if m == n then c else counted n counts) + (if m == n then 1 else 0) ≡ counted n counts
  less_one c n is = by (m == n) refl
    where
      by : (b : Bool) → (m == n) ≡ b → (if b then c else counted n counts) + (if b then 1 else 0) ≡ counted n counts
      by true e = subst (λ i. c + 1 ≡ counted i counts) (eqb-true m n e) is
      by false e = omega arith

  pub lowered : (c : ℕ) → IsSome (row_at count_key (number_key m) counts) → c + 1 ≡ counted m counts → (n : ℕ) → counted n (with_replaced count_key (record { number = m; count = c }) counts) + (if m == n then 1 else 0) ≡ counted n counts
  lowered c there is n = ap (λ a. a + (if m == n then 1 else 0)) (reset c there n) ∙ less_one c n is

  pub dropped : 0 + 1 ≡ counted m counts → (n : ℕ) → counted n (without count_key (number_key m) counts) + (if m == n then 1 else 0) ≡ counted n counts
  dropped is n =
      ap (λ a. a + (if m == n then 1 else 0)) (set_count (without count_key (number_key m) counts) 0 (ap count_in (removed_same count_key (number_key m) counts)) (λ i e. removed_other count_key (number_key m) (number_key i) counts e) n)
      ∙ less_one 0 n is

-- a number with a count has a row
pub has_count : (m : ℕ) (counts : List Count) → 0 < counted m counts → IsSome (row_at count_key (number_key m) counts)
has_count m counts lt = by (row_at count_key (number_key m) counts) lt
  where
    by : (o : Option Count) → 0 < count_in o → IsSome o
    by None h = absurd (omega (arith, h))
    by (Some c) h = refl

-- ---- the rows that are counted

cancel : (a b l m i : ℕ) → a + i ≡ b → b ≡ l → m + i ≡ l → a ≡ m
cancel a b l m i e f g = omega (arith, e, f, g)

both : (a r b l m to from : ℕ) → a + from ≡ r → r ≡ b + to → b ≡ l → m + from ≡ l → a ≡ m + to
both a r b l m to from e f g h = omega (arith, e, f, g, h)

under : (c l : ℕ) → c ≤ l → l < 2 ^ 63 → c + 1 < 2 ^ 64
under c l a b = omega (arith, a, b)

more : (m b l : ℕ) → m + 1 ≡ l → b ≡ l → 0 < b
more m b l e f = omega (arith, e, f)

module _ {X : Type 0} (key : X → RowKey) (owner : X → ℕ) where
  with_count : (n : ℕ) (row : X) (rows : List X) → IsInOrder key rows → count_by (is_of owner n) (with_row key row rows) ≡ count_by (is_of owner n) rows + (if owner row == n then 1 else 0)
  with_count n row rows order =
      sym (length-filter (is_of owner n) (with_row key row rows)) ∙ count_with key (is_of owner n) row rows order ∙ ap (λ c. c + (if owner row == n then 1 else 0)) (length-filter (is_of owner n) rows)

  without_count : (n : ℕ) (k : RowKey) (row : X) (rows : List X) → IsInOrder key rows → row_at key k rows ≡ Some row → count_by (is_of owner n) (without key k rows) + (if owner row == n then 1 else 0) ≡ count_by (is_of owner n) rows
  without_count n k row rows order at =
      ap (λ c. c + (if owner row == n then 1 else 0)) (sym (length-filter (is_of owner n) (without key k rows))) ∙ count_without key (is_of owner n) k row rows order at ∙ length-filter (is_of owner n) rows

  module _ (before : List Count) (rows : List X) (order : IsInOrder key rows) (are : AreCounts owner before rows) where
    pub same_counts : (after : List Count) → ((n : ℕ) → counted n after ≡ counted n before) → AreCounts owner after rows
    same_counts after same = record { each = λ n. same n ∙ are.each n }

    pub counts_with : (after : List Count) (row : X) → ((n : ℕ) → counted n after ≡ counted n before + (if owner row == n then 1 else 0)) → AreCounts owner after (with_row key row rows)
    counts_with after row one = record { each = λ n. one n ∙ ap (λ c. c + (if owner row == n then 1 else 0)) (are.each n) ∙ sym (with_count n row rows order) }

    pub counts_without : (after : List Count) (k : RowKey) (row : X) → row_at key k rows ≡ Some row → ((n : ℕ) → counted n after + (if owner row == n then 1 else 0) ≡ counted n before) → AreCounts owner after (without key k rows)
    counts_without after k row at one = record {
      each = λ n. cancel (counted n after) (counted n before) (count_by (is_of owner n) rows) (count_by (is_of owner n) (without key k rows)) (if owner row == n then 1 else 0) (one n) (are.each n) (without_count n k row rows order at);
    }

    -- the row in place of another, and what becomes of the counts of their owners
    pub counts_moved : (raised_counts after : List Count) (row old : X) → row_at key (key row) rows ≡ Some old
        → ((n : ℕ) → counted n raised_counts ≡ counted n before + (if owner row == n then 1 else 0))
        → ((n : ℕ) → counted n after + (if owner old == n then 1 else 0) ≡ counted n raised_counts) → AreCounts owner after (with_replaced key row rows)
    counts_moved raised_counts after row old at up down = record { each = each }
      where
        there : IsSome (row_at key (key row) rows)
        there = subst IsSome (sym at) refl

        each : (n : ℕ) → counted n after ≡ count_by (is_of owner n) (with_replaced key row rows)
        each n =
            both (counted n after) (counted n raised_counts) (counted n before) (count_by (is_of owner n) rows) (count_by (is_of owner n) (without key (key row) rows)) (if owner row == n then 1 else 0) (if owner old == n then 1 else 0)
            (down n) (up n) (are.each n) (without_count n (key row) old rows order at)
            ∙ sym (ap (count_by (is_of owner n)) (replaced_is key row rows order there) ∙ with_count n row (without key (key row) rows) (order-without key (key row) rows order))

    -- a row in place of one of the same owner
    pub counts_kept : (row old : X) → row_at key (key row) rows ≡ Some old → owner old ≡ owner row → AreCounts owner before (with_replaced key row rows)
    counts_kept row old at same = record { each = each }
      where
        there : IsSome (row_at key (key row) rows)
        there = subst IsSome (sym at) refl

        each : (n : ℕ) → counted n before ≡ count_by (is_of owner n) (with_replaced key row rows)
        each n =
            are.each n ∙ sym (without_count n (key row) old rows order at) ∙ ap (λ o. count_by (is_of owner n) (without key (key row) rows) + (if o == n then 1 else 0)) same
            ∙ sym (ap (count_by (is_of owner n)) (replaced_is key row rows order there) ∙ with_count n row (without key (key row) rows) (order-without key (key row) rows order))

    pub counts_stay : (row : X) → MatchOption (row_at key (key row) rows) ⊤ (λ old. owner old ≡ owner row) → AreCounts owner before (with_replaced key row rows)
    counts_stay row m = by (row_at key (key row) rows) refl m
      where
        by : (o : Option X) → row_at key (key row) rows ≡ o → MatchOption o ⊤ (λ old. owner old ≡ owner row) → AreCounts owner before (with_replaced key row rows)
        by None e h = subst (AreCounts owner before) (sym (with_replaced-none key row rows e)) are
        by (Some old) e h = counts_kept row old e h

    -- room for one more
    pub has_room : (after : List Count) (n : ℕ) → counted n after ≡ counted n before → length rows < 2 ^ 63 → counted n after + 1 < 2 ^ 64
    has_room after n same small = under (counted n after) (length rows) (subst (λ c. c ≤ length rows) (sym (same ∙ are.each n)) (count_by-le-length (is_of owner n) rows)) small

    pub is_counted : (k : RowKey) (row : X) → row_at key k rows ≡ Some row → 0 < counted (owner row) before
    is_counted k row at =
        more (count_by (is_of owner (owner row)) (without key k rows)) (counted (owner row) before) (count_by (is_of owner (owner row)) rows)
        (subst (λ b. count_by (is_of owner (owner row)) (without key k rows) + (if b then 1 else 0) ≡ count_by (is_of owner (owner row)) rows) (eq-eqb (owner row) (owner row) refl) (without_count (owner row) k row rows order at)) (are.each (owner row))

-- ---- answers of calls

pub on_ok : {A E : Type 0} {P Q : Type 0} (r : Result A E) → OnOk r P → (P → Q) → OnOk r Q
on_ok (Ok a) h f = f h
on_ok (Err e) h f = tt

pub either : {A E : Type 0} {P Q R : Type 0} (r : Result A E) → OnOk r P → OnErr r Q → (P → R) → (Q → R) → R
either (Ok a) p q f g = f p
either (Err e) p q f g = g q

pub raised_above : (a b c i : ℕ) → a ≡ b + i → b ≡ c → 0 < c → 0 < a
raised_above a b c i e f lt = omega (arith, e, f, lt)
