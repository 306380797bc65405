-- Tables as lists of rows in the order of their keys.
use Rattle.std.specs.Prelude.{◌≡◌, ℕ, ◌+◌, ◌-◌, ◌^◌, ◌<◌, ◌≤◌, ◌&&◌, ◌==◌, nat_eq, nat_lt, Bool, true, false, not, cond, if◌then◌else◌, List, [], ◌∷◌, ◌++◌, map, Option, Some, None, MatchOption, MatchBool}
use Rattle.std.specs.declared.cmp.Ordering.{Ordering}
use Rattle.std.specs.Ordering.{is_lt}
use Rattle.std.specs.List.{find, filter, list_any}
use Rattle.std.specs.List.Sorted.{IsStrictlySortedBy}
use Rattle.std.specs.Cmp.Lexicographic.{pointwise}
use Rattle.ordered_rows.specs.RowKey.{RowKey, key_cmp, same_key, same_group}

-- Below, `key` gives each row's key.

abbrev pub row_cmp : {X : Type 0} → (X → RowKey) → X → X → Ordering
row_cmp key a b = key_cmp (key a) (key b)

-- the keys ascend, none twice
abbrev pub IsInOrder : {X : Type 0} → (X → RowKey) → List X → Type 0
IsInOrder key rows = IsStrictlySortedBy (row_cmp key) rows

abbrev pub has_key : {X : Type 0} → (X → RowKey) → RowKey → X → Bool
has_key key k row = same_key (key row) k

abbrev pub is_below : {X : Type 0} → (X → RowKey) → RowKey → X → Bool
is_below key k row = is_lt (key_cmp (key row) k)

-- the row with the key
abbrev pub row_at : {X : Type 0} → (X → RowKey) → RowKey → List X → Option X
row_at key k rows = find (has_key key k) rows

-- the rows below the key, and those from the key on
abbrev pub rows_below : {X : Type 0} → (X → RowKey) → RowKey → List X → List X
rows_below key k rows = filter (is_below key k) rows

abbrev pub rows_from : {X : Type 0} → (X → RowKey) → RowKey → List X → List X
rows_from key k rows = filter (λ r. not (is_below key k r)) rows

-- with one row more, at its place
abbrev pub with_row : {X : Type 0} → (X → RowKey) → X → List X → List X
with_row key row rows = rows_below key (key row) rows ++ row ∷ rows_from key (key row) rows

-- the row in place of the one that has its key
abbrev pub with_replaced : {X : Type 0} → (X → RowKey) → X → List X → List X
with_replaced key row rows = map (λ r. if has_key key (key row) r then row else r) rows

-- without the row that has the key
abbrev pub without : {X : Type 0} → (X → RowKey) → RowKey → List X → List X
without key k rows = filter (λ r. not (has_key key k r)) rows

abbrev pub last_row : {X : Type 0} → List X → Option X
last_row [] = None
last_row (row ∷ []) = Some row
last_row (row ∷ next ∷ rows) = last_row (next ∷ rows)

-- keys that differ in the item alone are of one group
abbrev pub is_in_group : {X : Type 0} → (X → RowKey) → RowKey → X → Bool
is_in_group key k row = same_group (key row) k

-- the elements up to the first that fails the test
abbrev pub leading : {X : Type 0} → (X → Bool) → List X → List X
leading p [] = []
leading p (x ∷ xs) = cond (p x) (x ∷ leading p xs) []

-- a number in a list of numbers, behind those that are less
abbrev pub placed : ℕ → List ℕ → List ℕ
placed n ns = filter (λ i. nat_lt i n) ns ++ n ∷ filter (λ i. not (nat_lt i n)) ns

abbrev pub has_number : {X : Type 0} → (X → RowKey) → ℕ → X → Bool
has_number key n row = (key row).number == n

-- without the rows of a number
abbrev pub without_number : {X : Type 0} → (X → RowKey) → ℕ → List X → List X
without_number key n rows = filter (λ r. not (has_number key n r)) rows

-- what taking out one row makes of the rows
abbrev pub IsTaken : {X : Type 0} → (X → RowKey) → List X → List X → Option X → Type 0
IsTaken key rows left None = left ≡ rows
IsTaken key rows left (Some row) = (row_at key (key row) rows ≡ Some row) × (left ≡ without key (key row) rows)

abbrev pub has_text : {X : Type 0} → (X → RowKey) → List ℕ → X → Bool
has_text key text row = pointwise nat_eq (key row).text text

-- of the key's number, and not below the key
abbrev pub is_from : {X : Type 0} → (X → RowKey) → RowKey → X → Bool
is_from key k row = not (is_below key k row) && has_number key k.number row

abbrev pub is_under : {X : Type 0} → (X → RowKey) → ℕ → List ℕ → X → Bool
is_under key n text row = has_text key text row && has_number key n row

-- the least number from a start on that no key has
pub record IsLeastFree {X : Type 0} (key : X → RowKey) (start : ℕ) (rows : List X) (n : ℕ) : Type 0 where
  pub from : start ≤ n
  pub free : list_any (has_number key n) rows ≡ false
  pub below : (m : ℕ) → start ≤ m → m < n → list_any (has_number key m) rows ≡ true

-- The number of a new row: the greatest plus 1, and 1 for the first row; where the greatest is the last of 64 bits, the least from
-- 1 on that no row has. The last row has the greatest number.
abbrev pub IsNewNumber : {X : Type 0} → (X → RowKey) → List X → ℕ → Type 0
IsNewNumber key rows n = MatchOption (last_row rows) (n ≡ 1) (λ last. MatchBool (nat_lt (key last).number (2 ^ 64 - 1)) (n ≡ (key last).number + 1) (IsLeastFree key 1 rows n))
