-- What an insertion makes of a table, as a list.
use Rattle.std.specs.Prelude.{◌≡◌, Bool, true, false, List, [], ◌∷◌, ◌++◌, Some, None}
use Rattle.std.specs.List.{AllByRecursion, filter, find}
use Rattle.ordered_rows.specs.RowKey.{RowKey, same_key}
use Rattle.ordered_rows.specs.Listed.{IsInOrder, is_below, row_at, with_row}

pub record InsertLaws {X : Type 0} (key : X → RowKey) : Type 0 where
  -- the row at its own key, and the rows at other keys
  pub same : (row : X) (rows : List X) → row_at key (key row) (with_row key row rows) ≡ Some row
  pub other : (row : X) (k : RowKey) (rows : List X) → same_key (key row) k ≡ false → row_at key k (with_row key row rows) ≡ row_at key k rows
  -- The order is kept, and a row whose key is above all others goes behind all rows.
  pub order : (row : X) (rows : List X) → IsInOrder key rows → row_at key (key row) rows ≡ None → IsInOrder key (with_row key row rows)
  pub behind : (row : X) (rows : List X) → AllByRecursion (λ r. is_below key (key row) r ≡ true) rows → with_row key row rows ≡ rows ++ row ∷ []
  -- the rows that pass a test, where the new one passes and where it fails
  pub passing : (g : X → Bool) (row : X) (rows : List X) → g row ≡ true → filter g (with_row key row rows) ≡ with_row key row (filter g rows)
  pub failing : (g : X → Bool) (row : X) (rows : List X) → g row ≡ false → IsInOrder key rows → filter g (with_row key row rows) ≡ filter g rows
  -- what a test finds, where the new row is the first that passes, and where it fails
  pub finds : (g : X → Bool) (row : X) (rows : List X) → g row ≡ true → find g rows ≡ None → find g (with_row key row rows) ≡ Some row
  pub passes_by : (g : X → Bool) (row : X) (rows : List X) → g row ≡ false → IsInOrder key rows → find g (with_row key row rows) ≡ find g rows
  -- In order, a row that a test finds is the one at its key.
  pub at_key : (g : X → Bool) (row : X) (rows : List X) → IsInOrder key rows → find g rows ≡ Some row → row_at key (key row) rows ≡ Some row
