-- Which row has a key after an edit.
use Rattle.std.proofs.Common.{◌≡◌, ℕ, Bool, true, false, not, cond, if◌then◌else◌, nat_lt, ◌==◌, List, [], ◌∷◌, ◌++◌, Some, None, IsSome, refl, sym, ap, ◌∙◌, subst}
use mathlib.Core.Bool.{true≢false}
use Rattle.std.proofs.lemmas.List.Elements.{filter-append}
use Rattle.std.specs.declared.cmp.Ordering.TheVariants.{Less, Equal, Greater}
use Rattle.std.specs.Ordering.{is_lt, ordering_then}
use Rattle.std.specs.List.{filter, find}
use Rattle.ordered_rows.specs.RowKey.{RowKey, key_cmp, same_key, number_key}
use Rattle.ordered_rows.specs.Listed.{IsInOrder, has_key, is_below, row_at, rows_below, rows_from, last_row, with_row, with_replaced, without}
use Rattle.ordered_rows.proofs.Cuts.{AllAre, Falls, AllAre-append, AllAre-not, passes_before, filter-passing, filter-failing, filter-AllAre, filter-keeps, falls_cut}
use Rattle.ordered_rows.proofs.Keys.{same_is, same_itself, find-none, find-behind, none-find, below_none, below_falls}

module _ {X : Type 0} (g q : X → Bool) where
  -- a filter that keeps each row that the test finds leaves what it finds
  pub find-filter : ((x : X) → g x ≡ true → q x ≡ true) → (xs : List X) → find g (filter q xs) ≡ find g xs
  find-filter h [] = refl
  find-filter h (x ∷ xs) = by (g x) (q x) refl refl (find-filter h xs)
    where
      by : (a b : Bool) → g x ≡ a → q x ≡ b → find g (filter q xs) ≡ find g xs → find g (cond b (x ∷ filter q xs) (filter q xs)) ≡ cond (g x) (Some x) (find g xs)
      by a true ge qe rest = ap (λ o. cond (g x) (Some x) o) rest
      by true false ge qe rest = absurd (true≢false (sym (h x ge) ∙ qe))
      by false false ge qe rest = rest ∙ sym (ap (λ c. cond c (Some x) (find g xs)) ge)

  -- and one that drops them leaves none
  pub none-filter : ((x : X) → g x ≡ true → q x ≡ false) → (xs : List X) → AllAre g false (filter q xs)
  none-filter h [] = tt
  none-filter h (x ∷ xs) = by (g x) (q x) refl refl (none-filter h xs)
    where
      by : (a b : Bool) → g x ≡ a → q x ≡ b → AllAre g false (filter q xs) → AllAre g false (cond b (x ∷ filter q xs) (filter q xs))
      by a false ge qe rest = rest
      by false true ge qe rest = (ge, rest)
      by true true ge qe rest = absurd (true≢false (sym qe ∙ h x ge))

find-front : {X : Type 0} (g : X → Bool) (xs ys : List X) → AllAre g false ys → find g (xs ++ ys) ≡ find g xs
find-front g [] ys h = find-none g ys h
find-front g (x ∷ xs) ys h = ap (λ o. cond (g x) (Some x) o) (find-front g xs ys h)

-- A row that the test doesn't find, put between those that pass and those that fail a second test, changes nothing where the
-- second test answers the same for all rows that the first finds.
find-between : {X : Type 0} (g p : X → Bool) (b : Bool) → ((x : X) → g x ≡ true → p x ≡ b) → (row : X) → g row ≡ false → (xs : List X) → find g (filter p xs ++ row ∷ filter (λ x. not (p x)) xs) ≡ find g xs
find-between g p true h row miss xs =
    find-front g (filter p xs) (row ∷ filter (λ x. not (p x)) xs) (miss, none-filter g (λ x. not (p x)) (λ x e. ap not (h x e)) xs) ∙ find-filter g p h xs
find-between g p false h row miss xs =
    find-behind g (filter p xs) (row ∷ filter (λ x. not (p x)) xs) (none-filter g p h xs) ∙ ap (λ c. cond c (Some row) (find g (filter (λ x. not (p x)) xs))) miss ∙ find-filter g (λ x. not (p x)) (λ x e. ap not (h x e)) xs

pub split_last : {X : Type 0} (rows : List X) (l : X) → last_row rows ≡ Some l → (front : List X) × (rows ≡ front ++ l ∷ [])
split_last [] l e = cc
split_last {X} (x ∷ []) l e = ([], by x l e)
  where
    by : (x y : X) → Some x ≡ Some y → x ∷ [] ≡ y ∷ []
    by x y q = cc
split_last (x ∷ y ∷ rows) l e = let rest = split_last (y ∷ rows) l e in (x ∷ rest.0, ap (λ r. x ∷ r) rest.1)

module _ {X : Type 0} (key : X → RowKey) where
  -- a row with a key hasn't another
  has_other : (k other : RowKey) → same_key k other ≡ false → (row : X) → has_key key other row ≡ true → has_key key k row ≡ false
  has_other k other differ row e = by (has_key key k row) refl
    where
      by : (b : Bool) → has_key key k row ≡ b → b ≡ false
      by false q = refl
      by true q = sym (sym differ ∙ ap (λ a. same_key a other) (sym (same_is (key row) k q)) ∙ e)

  below_as : (k other : RowKey) (row : X) → has_key key other row ≡ true → is_below key k row ≡ is_lt (key_cmp other k)
  below_as k other row e = ap (λ a. is_lt (key_cmp a k)) (same_is (key row) other e)

  pub inserted_same : (row : X) (rows : List X) → row_at key (key row) (with_row key row rows) ≡ Some row
  inserted_same row rows =
      find-behind (has_key key (key row)) (rows_below key (key row) rows) (row ∷ rows_from key (key row) rows) (below_none key (key row) (rows_below key (key row) rows) (filter-keeps (is_below key (key row)) rows))
      ∙ ap (λ c. cond c (Some row) (find (has_key key (key row)) (rows_from key (key row) rows))) (same_itself (key row))

  pub inserted_other : (row : X) (k : RowKey) (rows : List X) → same_key (key row) k ≡ false → row_at key k (with_row key row rows) ≡ row_at key k rows
  inserted_other row k rows differ = find-between (has_key key k) (is_below key (key row)) (is_lt (key_cmp k (key row))) (λ x e. below_as (key row) k x e) row differ rows

  pub replaced_same : (row : X) (rows : List X) → IsSome (row_at key (key row) rows) → row_at key (key row) (with_replaced key row rows) ≡ Some row
  replaced_same row [] some = absurd (true≢false (sym some))
  replaced_same row (r ∷ rows) some = by (has_key key (key row) r) refl some (λ s. replaced_same row rows s)
    where
      by : (b : Bool) → has_key key (key row) r ≡ b → IsSome (cond b (Some r) (row_at key (key row) rows)) → (IsSome (row_at key (key row) rows) → row_at key (key row) (with_replaced key row rows) ≡ Some row)
          → row_at key (key row) ((if b then row else r) ∷ with_replaced key row rows) ≡ Some row
      by true e s rest = ap (λ c. cond c (Some row) (row_at key (key row) (with_replaced key row rows))) (same_itself (key row))
      by false e s rest = ap (λ c. cond c (Some r) (row_at key (key row) (with_replaced key row rows))) e ∙ rest s

  pub replaced_other : (row : X) (k : RowKey) (rows : List X) → same_key (key row) k ≡ false → row_at key k (with_replaced key row rows) ≡ row_at key k rows
  replaced_other row k [] differ = refl
  replaced_other row k (r ∷ rows) differ = by (has_key key (key row) r) refl (replaced_other row k rows differ)
    where
      by : (b : Bool) → has_key key (key row) r ≡ b → row_at key k (with_replaced key row rows) ≡ row_at key k rows → row_at key k ((if b then row else r) ∷ with_replaced key row rows) ≡ row_at key k (r ∷ rows)
      by true e rest =
          ap (λ c. cond c (Some row) (row_at key k (with_replaced key row rows))) differ ∙ rest
          ∙ sym (ap (λ c. cond c (Some r) (row_at key k rows)) (ap (λ a. same_key a k) (same_is (key r) (key row) e) ∙ differ))
      by false e rest = ap (λ o. cond (has_key key k r) (Some r) o) rest

  pub removed_same : (k : RowKey) (rows : List X) → row_at key k (without key k rows) ≡ None
  removed_same k rows = find-none (has_key key k) (without key k rows) (none-filter (has_key key k) (λ r. not (has_key key k r)) (λ x e. ap not e) rows)

  pub removed_other : (k other : RowKey) (rows : List X) → same_key k other ≡ false → row_at key other (without key k rows) ≡ row_at key other rows
  removed_other k other rows differ = find-filter (has_key key other) (λ r. not (has_key key k r)) (λ x e. ap not (has_other k other differ x e)) rows

  pub behind_last : (row l : X) (rows : List X) → IsInOrder key rows → last_row rows ≡ Some l → is_below key (key row) l ≡ true → with_row key row rows ≡ rows ++ row ∷ []
  behind_last row l rows order e below =
      let p : X → Bool = is_below key (key row) in
      let s = split_last rows l e in
      let front = passes_before p s.0 l [] (subst (λ r. Falls p r) s.1 (below_falls key (key row) rows order)) below in
      let all : AllAre p true rows = subst (AllAre p true) (sym s.1) (AllAre-append p true s.0 (l ∷ []) front (below, tt)) in
      ap (λ r. r ++ row ∷ rows_from key (key row) rows) (filter-passing p rows all) ∙ ap (λ r. rows ++ row ∷ r) (filter-failing (λ x. not (p x)) rows (AllAre-not p true rows all))

  pub undone : (row : X) (rows : List X) → IsInOrder key rows → row_at key (key row) rows ≡ None → without key (key row) (with_row key row rows) ≡ rows
  undone row rows order new =
      let p : X → Bool = is_below key (key row) in
      let miss : X → Bool = λ r. not (has_key key (key row) r) in
      let none = none-find (has_key key (key row)) rows new in
      let keeps : (q : X → Bool) → filter miss (filter q rows) ≡ filter q rows = λ q. filter-passing miss (filter q rows) (AllAre-not (has_key key (key row)) false (filter q rows) (filter-AllAre (has_key key (key row)) false q rows none)) in
      filter-append miss (filter p rows) (row ∷ filter (λ r. not (p r)) rows) ∙ ap (λ l. l ++ filter miss (row ∷ filter (λ r. not (p r)) rows)) (keeps p)
      ∙ ap (λ c. filter p rows ++ cond (not c) (row ∷ filter miss (filter (λ r. not (p r)) rows)) (filter miss (filter (λ r. not (p r)) rows))) (same_itself (key row))
      ∙ ap (λ l. filter p rows ++ l) (keeps (λ r. not (p r))) ∙ sym (falls_cut p rows (below_falls key (key row) rows order))

pub last-push : {X : Type 0} (rows : List X) (row : X) → last_row (rows ++ row ∷ []) ≡ Some row
last-push [] row = refl
last-push (x ∷ []) row = refl
last-push (x ∷ y ∷ rows) row = last-push (y ∷ rows) row

-- numbers alone compare as numbers
pub numbers_lt : (a b : ℕ) → is_lt (key_cmp (number_key a) (number_key b)) ≡ nat_lt a b
numbers_lt a b = by (nat_lt a b) (a == b)
  where
    by : (s t : Bool) → is_lt (ordering_then (ordering_then (ordering_then (ordering_then (ordering_then (cond s Less (cond t Equal Greater)) Equal) Equal) Equal) Equal) Equal) ≡ s
    by true t = refl
    by false true = refl
    by false false = refl
