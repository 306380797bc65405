-- Texts as strings (RFC 3501 §4.3).
use Rattle.std.specs.Prelude.{ℕ, Bool, ◌&&◌, ◌||◌, ◌==◌, nat_le, if◌then◌else◌, List, [], ◌∷◌, ◌++◌, length, flat_map, codes, decimal}
use Rattle.std.specs.List.{list_all}
use Rattle.std.specs.Str.{byte}

-- A byte that can stand in quotes: those of ASCII that have a print.
abbrev pub is_printable : ℕ → Bool
is_printable c = nat_le 0x20 c && nat_le c 0x7E

-- A byte within quotes.
abbrev pub escaped : ℕ → List ℕ
escaped c = if c == byte "\"" || c == byte "\\" then byte "\\" ∷ c ∷ [] else c ∷ []

-- A quoted string.
abbrev pub quoted : List ℕ → List ℕ
quoted bytes = codes "\"" ++ flat_map escaped bytes ++ codes "\""

-- A literal: how many bytes it has, and behind a line end these bytes as they are.
abbrev pub literal : List ℕ → List ℕ
literal bytes = codes "{" ++ decimal (length bytes) ++ codes "}\r\n" ++ bytes

-- A text: in quotes where each byte has a print, else as a literal.
unfoldable pub text_of : List ℕ → List ℕ
text_of bytes = if list_all is_printable bytes then quoted bytes else literal bytes
