-- Base64 (RFC 4648 §4): bytes as letters of six bits each.
use Rattle.std.specs.Prelude.{ℕ, ◌+◌, ◌*◌, ◌/◌, ◌%◌, ◌==◌, Bool, true, ◌&&◌, nat_lt, if◌then◌else◌, List, [], ◌∷◌, ◌++◌, codes, Option, Some, None}
use Rattle.std.specs.List.{position_or_len}
use Rattle.base64.specs.Rfc4648.{encode}

-- The 64 letters, in the order of what they stand for.
unfoldable pub letters : List ℕ
letters = codes "ABCDEFGHIJKLMNOPQRSTUVWXYZabcdefghijklmnopqrstuvwxyz0123456789+/"

-- The byte `=`, which stands for what is missing of the last group of four letters.
abbrev pub padding : ℕ
padding = 61

-- The base64 of bytes.
abbrev pub base64 : List ℕ → List ℕ
base64 bytes = encode letters padding true bytes

-- The six bits that a letter stands for: its place among the 64. It is 64 for a byte that is no letter.
unfoldable pub bits : ℕ → ℕ
bits c = position_or_len (λ letter. letter == c) letters

abbrev pub is_letter : ℕ → Bool
is_letter c = nat_lt (bits c) 64

-- The byte of which the first letter has six bits and the second two; the second four and the third four; the third two and
-- the fourth six.
abbrev pub first_byte : ℕ → ℕ → ℕ
first_byte a b = bits a * 4 + bits b / 16

abbrev pub second_byte : ℕ → ℕ → ℕ
second_byte b c = bits b % 16 * 16 + bits c / 4

abbrev pub third_byte : ℕ → ℕ → ℕ
third_byte c d = bits c % 4 * 64 + bits d

-- Four letters are three bytes.
abbrev pub group : ℕ → ℕ → ℕ → ℕ → Option (List ℕ)
group a b c d =
    if is_letter a && (is_letter b && (is_letter c && is_letter d)) then Some (first_byte a b ∷ second_byte b c ∷ third_byte c d ∷ []) else None

-- Two letters and two paddings are one byte, three letters and one padding are two. The bits of no byte are zero.
abbrev pub last_group : ℕ → ℕ → ℕ → ℕ → Option (List ℕ)
last_group a b c d =
    if d == padding then
    (if c == padding then
    (if is_letter a && (is_letter b && (bits b % 16 == 0)) then Some (first_byte a b ∷ []) else None)
    else (if is_letter a && (is_letter b && (is_letter c && (bits c % 4 == 0))) then Some (first_byte a b ∷ second_byte b c ∷ []) else None))
    else group a b c d

abbrev pub followed_by : Option (List ℕ) → Option (List ℕ) → Option (List ℕ)
followed_by None more = None
followed_by (Some bytes) None = None
followed_by (Some bytes) (Some more) = Some (bytes ++ more)

-- The bytes that a text is the base64 of, if it is that of any: groups of four, of which the last may be padded.
unfoldable pub decoded : List ℕ → Option (List ℕ)
decoded [] = Some []
decoded (a ∷ []) = None
decoded (a ∷ b ∷ []) = None
decoded (a ∷ b ∷ c ∷ []) = None
decoded (a ∷ b ∷ c ∷ d ∷ []) = last_group a b c d
decoded (a ∷ b ∷ c ∷ d ∷ e ∷ rest) = followed_by (group a b c d) (decoded (e ∷ rest))
