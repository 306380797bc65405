-- Kinds of bytes (RFC 3501 §9).
use Rattle.std.specs.Prelude.{ℕ, Bool, ◌&&◌, ◌||◌, not, ◌==◌, nat_le, codes}
use Rattle.std.specs.List.{list_any}
use Rattle.std.specs.Char.{is_ascii_digit, is_ascii_alphanumeric}
use Rattle.std.specs.Str.{byte}
use Rattle.imap_grammar.specs.declared.classes.Class.{Class}
use Rattle.imap_grammar.specs.declared.classes.Class.TheVariants.{Atom, Astring, Pattern, Tag, Word, Digit}

-- A byte of an atom: one of ASCII that has a print, but for these eight.
unfoldable pub is_atom_byte : ℕ → Bool
is_atom_byte c = (nat_le 0x21 c && nat_le c 0x7E) && not (list_any (λ special. special == c) (codes "(){%*\"\\]"))

abbrev pub is_in : Class → ℕ → Bool
is_in Atom c = is_atom_byte c
is_in Astring c = is_atom_byte c || c == byte "]"
is_in Pattern c = is_atom_byte c || c == byte "]" || c == byte "%" || c == byte "*"
is_in Tag c = (is_atom_byte c || c == byte "]") && not (c == byte "+")
is_in Word c = is_ascii_alphanumeric c || c == byte "." || c == byte "+" || c == byte "-"
is_in Digit c = is_ascii_digit c
