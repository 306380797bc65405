-- What lines announce: the number of a literal's bytes (RFC 3501 §4.3, §9, literal).
use Rattle.std.specs.Prelude.{ℕ, ◌+◌, ◌-◌, ◌*◌, ◌==◌, ◌&&◌, List, [], ◌∷◌, Option, Some, None, length, take, nat_eq, if◌then◌else◌}
use Rattle.std.specs.List.{ends_with}
use Rattle.std.specs.Char.{is_ascii_digit}
use Rattle.imap_lexer.specs.declared.units.Form.{Form}
use Rattle.imap_lexer.specs.declared.units.Form.TheVariants.{Command, Plain}

-- The end of a line, CRLF.
abbrev pub line_end : List ℕ
line_end = 13 ∷ 10 ∷ []

-- `}` and CRLF, with which an announcement ends
abbrev pub brace_end : List ℕ
brace_end = 125 ∷ line_end

-- the number whose decimal digits are those of a value and then these, where they are digits
abbrev pub number_behind : ℕ → List ℕ → Option ℕ
number_behind value [] = Some value
number_behind value (byte ∷ bytes) = if is_ascii_digit byte then number_behind (value * 10 + (byte - 48)) bytes else None

-- The number that a text is, of one or more decimal digits. It may have leading zeros, and be of any size.
abbrev pub number : List ℕ → Option ℕ
number [] = None
number (byte ∷ bytes) = number_behind 0 (byte ∷ bytes)

-- the number of a text that is `{`, a number, `}`, CRLF, and nothing else
abbrev pub announcement : List ℕ → Option ℕ
announcement [] = None
announcement (byte ∷ text) = if byte == 123 && ends_with nat_eq text brace_end then number (take (length text - 3) text) else None

abbrev pub or_else : Option ℕ → Option ℕ → Option ℕ
or_else None later = later
or_else (Some count) later = Some count

-- the number of the announcement with which a line ends, if it ends with one
abbrev pub announced : List ℕ → Option ℕ
announced [] = None
announced (byte ∷ bytes) = or_else (announcement (byte ∷ bytes)) (announced bytes)

-- the number of bytes of the literal behind a line of a form: a plain line has none
abbrev pub literal_behind : Form → List ℕ → Option ℕ
literal_behind Command line = announced line
literal_behind Plain line = None
