-- What reads, writes and readings of the clock leave, where the outside tells it.
use Rattle.std.specs.Prelude.{ℕ, ◌≡◌, ◌≤◌, ◌<◌, List, [], ◌∷◌, ◌++◌, Option, Some, None, length, take, drop, IsSomeAnd}

-- A read took the first n bytes of what was left, and gave them at the front of its buffer. None for a buffer
-- that isn't empty means that nothing was left.
pub record TakesFirst (n : ℕ) (buffer old new : List ℕ) : Type 0 where
  pub there : n ≤ length old
  pub given : take n buffer ≡ take n old
  pub rest : new ≡ drop n old
  pub the_end : n ≡ 0 → 0 < length buffer → old ≡ []

-- the same where the source tells what is left, which it does afterwards as before
abbrev pub Takes : ℕ → List ℕ → Option (List ℕ) → Option (List ℕ) → Type 0
Takes n buffer (Some old) new = IsSomeAnd new (TakesFirst n buffer old)
Takes n buffer None new = new ≡ None

-- The bytes were added to what was written, where the sink tells it, which it does afterwards as before.
abbrev pub Appends : List ℕ → Option (List ℕ) → Option (List ℕ) → Type 0
Appends bytes (Some old) new = new ≡ Some (old ++ bytes)
Appends bytes None new = new ≡ None

-- The clock gave this reading, where it still tells its readings.
abbrev pub Reads : ℕ → Option (List ℕ) → Option (List ℕ) → Type 0
Reads reading old (Some new) = IsSomeAnd old (λ before. new ≡ reading ∷ before)
Reads reading old None = Unit {0}

-- the last second of the year 9999
abbrev pub last_moment : ℕ
last_moment = 253402300799

-- a reading of the clock as it is used
abbrev pub moment : ℕ → ℕ
moment reading = Rattle.std.specs.Prelude.min reading last_moment
