-- Numbers as decimal digits.
use Rattle.std.specs.Char.{is_ascii_digit}
use Rattle.std.specs.Prelude.{ℕ, ◌+◌, ◌-◌, ◌*◌, ◌^◌, Bool, true, ◌&&◌, nat_lt, if◌then◌else◌, List, [], ◌∷◌, length, Option, Some, None}

abbrev pub are_digits : List ℕ → Bool
are_digits [] = true
are_digits (c ∷ cs) = is_ascii_digit c && are_digits cs

-- The value of digits, the first of which counts most.
abbrev pub digits_value : List ℕ → ℕ
digits_value [] = 0
digits_value (c ∷ cs) = (c - 48) * 10 ^ length cs + digits_value cs

-- The number that a text is, where it is one or more digits and the number has 64 bits.
abbrev pub decimal_value : List ℕ → Option ℕ
decimal_value [] = None
decimal_value (c ∷ cs) = if are_digits (c ∷ cs) && nat_lt (digits_value (c ∷ cs)) (2 ^ 64) then Some (digits_value (c ∷ cs)) else None
