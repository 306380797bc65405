-- How many rows each owner has.
use Rattle.std.specs.Prelude.{◌≡◌, ℕ, ◌==◌, Bool, List, Option, Some, None}
use Rattle.std.specs.List.{count_by}
use Rattle.ordered_rows.specs.RowKey.{RowKey, number_key}
use Rattle.ordered_rows.specs.Listed.{row_at}
use Rattle.ordered_rows.specs.declared.counts.Count.{Count}

abbrev pub count_key : Count → RowKey
count_key c = number_key c.number

abbrev pub count_in : Option Count → ℕ
count_in None = 0
count_in (Some c) = c.count

-- what a table of counts has for a number: 0 where it has no row
abbrev pub counted : ℕ → List Count → ℕ
counted n counts = count_in (row_at count_key (number_key n) counts)

-- Below, `owner` gives each row's owner.
abbrev pub is_of : {X : Type 0} → (X → ℕ) → ℕ → X → Bool
is_of owner n row = owner row == n

-- The table of counts has how many rows each owner has.
pub record AreCounts {X : Type 0} (owner : X → ℕ) (counts : List Count) (rows : List X) : Type 0 where
  pub each : (n : ℕ) → counted n counts ≡ count_by (is_of owner n) rows
