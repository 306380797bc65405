-- The printed form of what sessions got.
use Rattle.std.specs.Prelude.{ℕ, ◌≡◌, ◌/◌, ◌%◌, ◌==◌, ◌&&◌, nat_le, List, [], ◌∷◌, ◌++◌, length, take, flat_map, codes, decimal, if◌then◌else◌}
use Rattle.std.specs.List.{onto_first}
use Rattle.std.specs.Char.{digit_char}
use Rattle.std.specs.Str.{byte}

-- How a byte is printed: CR, LF and the backslash by a letter behind a backslash, other printable bytes of ASCII as
-- themselves, and the rest in hexadecimal.
abbrev pub spelling : ℕ → List ℕ
spelling c =
    if c == 13 then codes "\\r"
    else (if c == 10 then codes "\\n"
    else (if c == byte "\\" then codes "\\\\"
    else (if nat_le 0x20 c && nat_le c 0x7e then c ∷ []
    else codes "\\x" ++ digit_char (c / 16) ∷ digit_char (c % 16) ∷ [])))

abbrev pub escaped : List ℕ → List ℕ
escaped bytes = flat_map spelling bytes

-- the pieces of bytes up to and with each LF, and a last piece without LF if there is one
abbrev pub pieces : List ℕ → List (List ℕ)
pieces [] = []
pieces (c ∷ cs) = if c == 10 then (c ∷ []) ∷ pieces cs else onto_first c (pieces cs)

-- a piece of what the session of a number got, as one line
abbrev pub session_line : ℕ → List ℕ → List ℕ
session_line number bytes = decimal number ++ codes ": " ++ escaped bytes ++ codes "\n"

-- What the session of a number got, as lines.
abbrev pub session_lines : ℕ → List ℕ → List ℕ
session_lines number bytes = flat_map (session_line number) (pieces bytes)

-- The new bytes begin with the old ones.
abbrev pub Extends : List ℕ → List ℕ → Type 0
Extends old new = take (length old) new ≡ old
