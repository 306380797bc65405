-- Atoms, strings and numbers (RFC 3501 §4.1 to §4.3, §9).
use Rattle.std.specs.Prelude.{ℕ, suc, ◌+◌, Bool, true, false, ◌&&◌, ◌||◌, ◌==◌, not, nat_le, if◌then◌else◌, List, [], ◌∷◌, length, take, drop, Option, Some, None, option_map}
use Rattle.std.specs.Str.{byte as code}
use Rattle.mail_text.specs.Texts.{front, behind}
use Rattle.mail_text.specs.Decimals.{decimal_value}
use Rattle.imap_grammar.specs.declared.classes.Class.{Class}
use Rattle.imap_grammar.specs.declared.classes.Class.TheVariants.{Astring, Pattern, Digit}
use Rattle.imap_grammar.specs.Classes.{is_in}
use Rattle.imap_grammar.specs.Spellings.{unescaped}
use Rattle.imap_grammar.specs.Readings.{Reading, ◌>>=◌, ◌>>◌, begun, byte, counted}

-- One or more bytes of the class, as many as there are.
unfoldable pub some : Class → Reading (List ℕ)
some class = λ text. if nat_le 1 (length (front (is_in class) text)) then Some (front (is_in class) text, behind (is_in class) text) else None

-- a number within its bounds
abbrev pub within : ℕ → ℕ → Option ℕ → Option ℕ
within low high None = None
within low high (Some n) = if nat_le low n && nat_le n high then Some n else None

-- A number within bounds. Leading zeros are taken.
unfoldable pub number : ℕ → ℕ → Reading ℕ
number low high = λ text. option_map (λ n. (n, behind (is_in Digit) text)) (within low high (decimal_value (front (is_in Digit) text)))

-- What a quoted string has as it is: all bytes but NUL, CR and LF.
abbrev pub is_text : ℕ → Bool
is_text c = not (c == 0 || c == 10 || c == 13)

-- The place of the quote that ends a quoted string, behind a `\` or not. A `\` stands before a quote or a `\` alone.
abbrev pub closing : Bool → List ℕ → Option ℕ
closing escaped [] = None
closing true (c ∷ cs) = if c == code "\"" || c == code "\\" then option_map suc (closing false cs) else None
closing false (c ∷ cs) =
    if c == code "\"" then Some 0
    else (if c == code "\\" then option_map suc (closing true cs)
    else (if is_text c then option_map suc (closing false cs) else None))

-- A string in quotes.
unfoldable pub quoted : Reading (List ℕ)
quoted = do
  byte (code "\"")
  λ text. option_map (λ n. (unescaped (take n text), drop (n + 1) text)) (closing false text)

-- A string of so many bytes, whatever they are.
unfoldable pub literal : Reading (List ℕ)
literal = do
  byte (code "{")
  n ← number 0 18_446_744_073_709_551_615
  byte (code "}")
  byte 13
  byte 10
  counted n

unfoldable pub string : Reading (List ℕ)
string = begun (code "\"") quoted literal

-- A string, or an atom of the class.
unfoldable pub string_or : Class → Reading (List ℕ)
string_or class = begun (code "\"") quoted (begun (code "{") literal (some class))

-- The name of a mailbox, a user, a charset or a field.
abbrev pub astring : Reading (List ℕ)
astring = string_or Astring

-- A name with wildcards.
abbrev pub pattern : Reading (List ℕ)
pattern = string_or Pattern

-- A number of 32 bits, from the given one.
unfoldable pub number32 : ℕ → Reading ℕ
number32 low = number low 4_294_967_295

-- A mod-sequence, from the given one (RFC 4551 §4, mod-sequence-value).
unfoldable pub modseq : ℕ → Reading ℕ
modseq low = number low 18_446_744_073_709_551_614
