-- The blocks in which a table keeps its rows.
use Rattle.std.specs.Prelude.{◌≡◌, ℕ, ◌<◌, ◌+◌, ◌-◌, ◌^◌, Bool, true, not, List, [], ◌∷◌, ◌++◌, length, take, drop, Vec, Option, Some, None, slice_get}
use Rattle.std.specs.List.{filter, flat_map}
use Rattle.ordered_rows.specs.RowKey.{RowKey}
use Rattle.ordered_rows.specs.Listed.{IsInOrder, has_key, has_number, is_below, row_at, without_number}

-- the rows of all blocks
abbrev pub flat : {X Y : Type 0} → List (Vec X Y) → List X
flat blocks = flat_map (λ b. b.items) blocks

-- no block is empty
abbrev pub AreFilled : {X Y : Type 0} → List (Vec X Y) → Type 0
AreFilled [] = Unit {0}
AreFilled (b ∷ bs) = (0 < length b.items) × AreFilled bs

pub record IsTable {X Y : Type 0} (key : X → RowKey) (blocks : List (Vec X Y)) : Type 0 where
  pub order : IsInOrder key (flat blocks)
  pub filled : AreFilled blocks

abbrev pub passes_if_any : {X : Type 0} → (X → Bool) → Option X → Bool
passes_if_any p None = true
passes_if_any p (Some x) = p x

-- the last row of a block passes the test
abbrev pub last_passes : {X Y : Type 0} → (X → Bool) → Vec X Y → Bool
last_passes p b = passes_if_any p (slice_get b.items (length b.items - 1))

-- row i of block n is the first that fails the test; those before it pass
pub record IsSpot {X Y : Type 0} (p : X → Bool) (blocks : List (Vec X Y)) (n i : ℕ) : Type 0 where
  pub block : Vec X Y
  pub row : X
  pub has_block : slice_get blocks n ≡ Some block
  pub has_row : slice_get block.items i ≡ Some row
  pub front : flat (take n blocks) ++ take i block.items ≡ filter p (flat blocks)
  pub back : row ∷ (drop (i + 1) block.items ++ flat (drop (n + 1) blocks)) ≡ filter (λ r. not (p r)) (flat blocks)

-- where the rows that pass the test end: before a row, or at the end of all
abbrev pub IsEnd : {X Y : Type 0} → (X → Bool) → List (Vec X Y) → Option (ℕ × ℕ) → Type 0
IsEnd p blocks None = (flat blocks ≡ filter p (flat blocks)) × ([] ≡ filter (λ r. not (p r)) (flat blocks))
IsEnd p blocks (Some s) = IsSpot p blocks s.0 s.1

-- row i of block n has the key
pub record HasKey {X Y : Type 0} (key : X → RowKey) (k : RowKey) (blocks : List (Vec X Y)) (n i : ℕ) : Type 0 where
  pub spot : IsSpot (is_below key k) blocks n i
  pub has : has_key key k spot.row ≡ true

abbrev pub IsPlace : {X Y : Type 0} → (X → RowKey) → RowKey → List (Vec X Y) → Option (ℕ × ℕ) → Type 0
IsPlace key k blocks None = row_at key k (flat blocks) ≡ None
IsPlace key k blocks (Some s) = HasKey key k blocks s.0 s.1

-- row i of block m is the first of a number
pub record HasFirst {X Y : Type 0} (key : X → RowKey) (n : ℕ) (blocks : List (Vec X Y)) (m i : ℕ) : Type 0 where
  pub row : X
  pub numbered : has_number key n row ≡ true
  pub found : HasKey key (key row) blocks m i

abbrev pub IsFirst : {X Y : Type 0} → (X → RowKey) → ℕ → List (Vec X Y) → Option (ℕ × ℕ) → Type 0
IsFirst key n blocks None = without_number key n (flat blocks) ≡ flat blocks
IsFirst key n blocks (Some s) = HasFirst key n blocks s.0 s.1

-- a table, with the number of its rows
pub record IsCounted {X Y : Type 0} (key : X → RowKey) (blocks : List (Vec X Y)) (len : ℕ) : Type 0 where
  pub table : IsTable key blocks
  pub count : len ≡ length (flat blocks)
  pub small : len < 2 ^ 63
