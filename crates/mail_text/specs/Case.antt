-- Texts compared without regard to the case of ASCII letters.
use Rattle.std.specs.Prelude.{ℕ, Bool, List}
use Rattle.std.specs.Char.{eq_ignore_ascii_case}
use lib.Pointwise.{pointwise}

-- Whether two texts have the same bytes once their capitals `A` to `Z` are small letters.
abbrev pub is_same : List ℕ → List ℕ → Bool
is_same a b = pointwise eq_ignore_ascii_case a b
