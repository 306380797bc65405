-- Quoted-printable bodies (RFC 2045 §6.7), as they are read for a search: what fits no rule stands for itself.
use Rattle.std.specs.Prelude.{ℕ, ◌+◌, ◌*◌, ◌==◌, Bool, ◌&&◌, nat_lt, if◌then◌else◌, List, [], ◌∷◌, ◌++◌, Option, Some, None}
use Rattle.std.specs.Option.{option_map}
use Rattle.std.specs.Char.{digit_value}
use Rattle.mail_text.specs.Texts.{without_blank_end}
use Rattle.mail_text.specs.Lines.{pieces}
use Rattle.transfer_codec.specs.Scan.{scan}

-- A hexadecimal digit, in either case.
abbrev pub is_hex : ℕ → Bool
is_hex c = nat_lt (digit_value c) 16

-- The byte of two hexadecimal digits.
abbrev pub hex_byte : ℕ → ℕ → Option ℕ
hex_byte high low = if is_hex high && is_hex low then Some (digit_value high * 16 + digit_value low) else None

-- The byte that stands at the front of a text as `=` and two hexadecimal digits.
unfoldable pub escape : List ℕ → Option ℕ
escape [] = None
escape (c ∷ []) = None
escape (c ∷ d ∷ []) = None
escape (c ∷ d ∷ e ∷ rest) = if c == 61 then hex_byte d e else None

-- The same, with its three bytes.
abbrev pub escape_front : List ℕ → Option (ℕ × ℕ)
escape_front text = option_map (λ byte. (3, byte)) (escape text)

-- A text with each escape as its byte.
abbrev pub unescaped : List ℕ → List ℕ
unescaped text = scan escape_front (λ c. c) 0 text

-- A line without the `=` at its end; none where it doesn't end in one.
abbrev pub without_equals : List ℕ → Option (List ℕ)
without_equals [] = None
without_equals (c ∷ []) = if c == 61 then Some [] else None
without_equals (c ∷ d ∷ ds) = option_map (λ front. c ∷ front) (without_equals (d ∷ ds))

-- A line with what ends it: a `=` at its end joins it with the next line.
abbrev pub with_end : Option (List ℕ) → List ℕ → List ℕ → List ℕ
with_end (Some front) line ending = unescaped front
with_end None line ending = unescaped line ++ ending

-- What a line says. Blanks at its end are no part of it.
abbrev pub line_text : List ℕ → List ℕ → List ℕ
line_text line ending = with_end (without_equals (without_blank_end line)) (without_blank_end line) ending

-- What lines say; the last has no line end.
abbrev pub lines_text : List (List ℕ) → List ℕ
lines_text [] = []
lines_text (l ∷ []) = line_text l []
lines_text (l ∷ m ∷ ls) = line_text l (13 ∷ 10 ∷ []) ++ lines_text (m ∷ ls)

-- What a body says.
abbrev pub decoded_quoted : List ℕ → List ℕ
decoded_quoted body = lines_text (pieces body)
