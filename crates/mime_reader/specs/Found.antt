-- What a search at the front of a text tells of it.
use Rattle.std.specs.Prelude.{◌≡◌, ℕ, ◌≤◌, List, drop, length, Option, Some, None}

-- What is at the front, and how many bytes it has: the same as with what is behind. There is one byte at least.
abbrev pub IsFront : {A : Type 0} → List ℕ → Option (A × ℕ) → Option (A × List ℕ) → Type 0
IsFront text None front = front ≡ None
IsFront text (Some found) front = (1 ≤ found.1) × (found.1 ≤ length text) × (front ≡ Some (found.0, drop found.1 text))
