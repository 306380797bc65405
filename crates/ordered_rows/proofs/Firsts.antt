-- The first row of a number, and the rows without it.
use Rattle.std.proofs.Common.{◌≡◌, ℕ, Bool, true, false, not, cond, ◌==◌, ◌+◌, List, [], ◌∷◌, ◌++◌, take, drop, Vec, Some, refl, sym, ap, ◌∙◌, subst}
use mathlib.Core.Bool.{true≢false}
use borrow.Author.Tests.{eqb-true}
use Rattle.std.specs.declared.cmp.Ordering.TheVariants.{Less}
use Rattle.std.specs.Ordering.{is_lt}
use Rattle.std.specs.List.{filter, AllByRecursion}
use Rattle.std.specs.List.Sorted.{IsStrictlySortedBy}
use Rattle.ordered_rows.specs.RowKey.{RowKey, number_key}
use Rattle.ordered_rows.specs.Listed.{row_cmp, IsInOrder, has_key, is_below, rows_from, leading, has_number, row_at, without, without_number}
use Rattle.ordered_rows.specs.Blocks.{flat, IsTable, IsSpot, HasKey}
use Rattle.ordered_rows.proofs.Cuts.{AllAre, IsCut, cut, falls_cut}
use Rattle.ordered_rows.proofs.Keys.{below_falls, in_order_right, has-not_below, same_is, same_itself}
use Rattle.ordered_rows.proofs.Numbers.{numbered_is}

-- a row taken out by its key
abbrev pub IsTakenAt : {X : Type 0} → (X → RowKey) → X → List X → List X → RowKey → Type 0
IsTakenAt key row rows left k = (row_at key k rows ≡ Some row) × (left ≡ without key k rows)

-- a filter whose test implies another's
filter-among : {X : Type 0} (p q : X → Bool) → ((x : X) → p x ≡ true → q x ≡ true) → (xs : List X) → filter p (filter q xs) ≡ filter p xs
filter-among p q sub [] = refl
filter-among {X} p q sub (x ∷ xs) = by (p x) (q x) refl refl (filter-among p q sub xs)
  where
    by : (a b : Bool) → p x ≡ a → q x ≡ b → filter p (filter q xs) ≡ filter p xs → filter p (cond b (x ∷ filter q xs) (filter q xs)) ≡ cond a (x ∷ filter p xs) (filter p xs)
    by true true r s rest = ap (λ c. cond c (x ∷ filter p (filter q xs)) (filter p (filter q xs))) r ∙ ap (λ l. x ∷ l) rest
    by true false r s rest = absurd (true≢false (sym (sub x r) ∙ s))
    by false true r s rest = ap (λ c. cond c (x ∷ filter p (filter q xs)) (filter p (filter q xs))) r ∙ rest
    by false false r s rest = rest

-- where none passes, all fail
none-not : {X : Type 0} (g : X → Bool) (xs : List X) → filter g xs ≡ [] → filter (λ x. not (g x)) xs ≡ xs
none-not g [] e = refl
none-not {X} g (x ∷ xs) e = by (g x) e (λ h. none-not g xs h)
  where
    by : (b : Bool) → cond b (x ∷ filter g xs) (filter g xs) ≡ [] → (filter g xs ≡ [] → filter (λ y. not (g y)) xs ≡ xs) → cond (not b) (x ∷ filter (λ y. not (g y)) xs) (filter (λ y. not (g y)) xs) ≡ x ∷ xs
    by true h rest = absurd cc
    by false h rest = ap (λ l. x ∷ l) (rest h)

pub other_number : (a b : ℕ) → (a ≡ b → ⊥) → (a == b) ≡ false
other_number a b differs = by (a == b) refl
  where
    by : (t : Bool) → (a == b) ≡ t → t ≡ false
    by true e = absurd (differs (eqb-true a b e))
    by false e = refl

module _ {X : Type 0} (key : X → RowKey) where
  -- in order, the rows in front of a row are below it, and the others aren't
  front_below : (front : List X) (row : X) (rest : List X) → IsInOrder key (front ++ row ∷ rest) → AllAre (is_below key (key row)) true front
  unfolding IsStrictlySortedBy
  front_below [] row rest order = tt
  front_below (x ∷ front) row rest order = (at front order.0, front_below front row rest order.1)
    where
      at : (ys : List X) → AllByRecursion (λ y. row_cmp key x y ≡ Less) (ys ++ row ∷ rest) → is_below key (key row) x ≡ true
      at [] h = ap is_lt h.0
      at (y ∷ ys) h = at ys h.1

  module _ (n : ℕ) where
    abbrev p : X → Bool
    p = is_below key (number_key n)

    pub none_left : (rows : List X) → IsInOrder key rows → rows_from key (number_key n) rows ≡ [] → without_number key n rows ≡ rows
    none_left rows order e = none-not (has_number key n) rows (sym (numbered_is key n rows order) ∙ ap (leading (has_number key n)) e)

    pub other_first : (rows : List X) (row : X) (rest : List X) → IsInOrder key rows → rows_from key (number_key n) rows ≡ row ∷ rest → has_number key n row ≡ false → without_number key n rows ≡ rows
    other_first rows row rest order e differs =
        none-not (has_number key n) rows
        (sym (numbered_is key n rows order) ∙ ap (leading (has_number key n)) e ∙ ap (λ b. cond b (row ∷ leading (has_number key n) rest) []) differs)

    pub without_first : (row : X) (rows : List X) → has_number key n row ≡ true → without_number key n (without key (key row) rows) ≡ without_number key n rows
    without_first row rows is = filter-among (λ x. not (has_number key n x)) (λ x. not (has_key key (key row) x)) (λ x out. by x (has_key key (key row) x) refl out) rows
      where
        by : (x : X) (b : Bool) → has_key key (key row) x ≡ b → not (has_number key n x) ≡ true → not b ≡ true
        by x false h out = refl
        by x true h out = absurd (true≢false (sym out ∙ ap not (ap (λ (k : RowKey). k.number == n) (same_is (key x) (key row) h) ∙ is)))

-- The row at a spot has its own key, which is found there too.
module _ {X Y : Type 0} (key : X → RowKey) (n : ℕ) (blocks : List (Vec X Y)) (m i : ℕ) (table : IsTable key blocks) (s : IsSpot (is_below key (number_key n)) blocks m i) where
  abbrev k : RowKey
  k = key s.row

  abbrev front : List X
  front = flat (take m blocks) ++ take i s.block.items

  abbrev rest : List X
  rest = drop (i + 1) s.block.items ++ flat (drop (m + 1) blocks)

  whole : flat blocks ≡ front ++ s.row ∷ rest
  whole =
      falls_cut (is_below key (number_key n)) (flat blocks) (below_falls key (number_key n) (flat blocks) table.order)
      ∙ ap (λ l. l ++ filter (λ r. not (is_below key (number_key n) r)) (flat blocks)) (sym s.front) ∙ ap (λ l. front ++ l) (sym s.back)

  own : IsCut (is_below key k) (flat blocks) front (s.row ∷ rest)
  own =
      let order = subst (IsInOrder key) whole table.order in
      let itself = has-not_below key k s.row (same_itself k) in
      cut (is_below key k) (flat blocks) front (s.row ∷ rest) whole (front_below key front s.row rest order)
      (itself, (below_falls key k (s.row ∷ rest) (in_order_right key front (s.row ∷ rest) order)).0 itself)

  pub own_key : HasKey key k blocks m i
  own_key = record {
    spot = record { block = s.block; row = s.row; has_block = s.has_block; has_row = s.has_row; front = own.keeps; back = own.drops };
    has = same_itself k;
  }
