-- How a name is matched. These serve the contracts of private functions alone.
use Rattle.std.specs.Prelude.{ℕ, ◌==◌, ◌&&◌, ◌||◌, Bool, if◌then◌else◌, List, [], ◌∷◌}
use Rattle.mailbox_names.specs.Patterns.{is_wildcard, takes}

-- whether a longer pattern matches a front: by the byte before it, or as its wildcard takes nothing
abbrev pub entered : ℕ → Bool → Bool → Bool
entered p carry was = carry || (is_wildcard p && was)

-- and whether it goes on to the next byte
abbrev pub carried : ℕ → Bool → Bool → ℕ → Bool
carried p carry was b = if is_wildcard p then entered p carry was && takes p b else was && b == p

-- Of a row, which has for each front of a name whether a pattern matches it: the row of the pattern with one byte more.
abbrev pub stepped : ℕ → Bool → List Bool → List ℕ → List Bool
stepped p carry [] name = []
stepped p carry (was ∷ row) [] = entered p carry was ∷ []
stepped p carry (was ∷ row) (b ∷ name) = entered p carry was ∷ stepped p (carried p carry was b) row name
