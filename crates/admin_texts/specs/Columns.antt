-- Lines of columns.
use Rattle.std.specs.Prelude.{ℕ, ℤ, ◌/◌, ◌%◌, ◌==◌, ◌&&◌, nat_le, List, [], ◌∷◌, ◌++◌, flat_map, codes, decimal, if◌then◌else◌}
use Rattle.std.specs.Char.{digit_char}
use Rattle.std.specs.Fmt.{signed_decimal}
use Rattle.std.specs.Str.{byte}

-- What stands in a column: a number, one that may be negative, a text of bytes, or the bytes of a digest.
pub data Column : Type 0 where
  number : ℕ → Column
  integer : ℤ → Column
  text : List ℕ → Column
  digest : List ℕ → Column

-- a byte as two digits in lower case
abbrev pub hexadecimal : ℕ → List ℕ
hexadecimal c = digit_char (c / 16) ∷ digit_char (c % 16) ∷ []

-- How a byte of a text is printed: CR, LF and the backslash by a letter behind a backslash, other printable bytes of ASCII
-- but the quote as themselves, and the rest in hexadecimal.
abbrev pub spelled : ℕ → List ℕ
spelled c =
    if c == 13 then codes "\\r"
    else (if c == 10 then codes "\\n"
    else (if c == byte "\\" then codes "\\\\"
    else (if c == byte "\"" then codes "\\x22"
    else (if nat_le 0x20 c && nat_le c 0x7e then c ∷ []
    else codes "\\x" ++ hexadecimal c))))

abbrev pub printed : Column → List ℕ
printed (number n) = decimal n
printed (integer z) = signed_decimal z
printed (text bytes) = codes "\"" ++ flat_map spelled bytes ++ codes "\""
printed (digest bytes) = flat_map hexadecimal bytes

-- a column behind its space
unfoldable pub spaced : Column → List ℕ
spaced column = codes " " ++ printed column

-- a name and its columns, each behind a space, and LF
unfoldable pub line : List ℕ → List Column → List ℕ
line name columns = name ++ flat_map spaced columns ++ codes "\n"
