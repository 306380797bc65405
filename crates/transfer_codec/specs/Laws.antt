-- What holds of encoded bodies.
use Rattle.std.specs.Prelude.{◌≡◌, ◌↔◌, ℕ, ◌+◌, ◌*◌, ◌≤◌, true, false, List, [], ◌∷◌, ◌++◌, length, Some, None}
use Rattle.std.specs.Char.{digit_value}
use Rattle.std.specs.List.{AllByRecursion}
use Rattle.base64.specs.GeneralPurpose.{IsBytes}
use Rattle.mail_text.specs.Lines.{IsCrlf, has, lines}
use Rattle.mail_text.specs.Texts.{is_blank, without_blank_end}
use Rattle.transfer_codec.specs.Base64.{base64, decoded}
use Rattle.transfer_codec.specs.Layout.{decoded64, pieces_of, printed64, printed64_size}
use Rattle.transfer_codec.specs.Quoted.{decoded_quoted, escape, is_hex, unescaped, without_equals}

pub record Base64Laws : Type 0 where
  -- A text decodes to bytes exactly where it is their base64.
  pub exact : (text bytes : List ℕ) → IsBytes bytes → (decoded text ≡ Some bytes) ↔ (text ≡ base64 bytes)
  pub are_bytes : (text bytes : List ℕ) → decoded text ≡ Some bytes → IsBytes bytes
  -- Bytes that are printed are read again.
  pub read_again : (bytes : List ℕ) → IsBytes bytes → decoded64 (printed64 bytes) ≡ Some bytes
  -- The printed lines: the letters in pieces of 76, each line with a CRLF.
  pub lines_are : (bytes : List ℕ) → IsBytes bytes → lines (printed64 bytes) ≡ pieces_of 76 (base64 bytes) ++ [] ∷ []
  pub short : (bytes : List ℕ) → IsBytes bytes → AllByRecursion (λ line. length line ≤ 76) (lines (printed64 bytes))
  pub is_crlf : (bytes : List ℕ) → IsBytes bytes → IsCrlf (printed64 bytes)
  pub size : (bytes : List ℕ) → length (printed64 bytes) ≡ printed64_size (length bytes)
  -- No zero byte and no dash stands in them, so no line could be taken for a delimiter between parts (RFC 2046 §5.1.1).
  pub no_zero : (bytes : List ℕ) → IsBytes bytes → has 0 (printed64 bytes) ≡ false
  pub no_dash : (bytes : List ℕ) → IsBytes bytes → has 45 (printed64 bytes) ≡ false

abbrev pub AreBlanks : List ℕ → Type 0
AreBlanks bytes = AllByRecursion (λ c. is_blank c ≡ true) bytes

-- Quoted-printable, as it is read for a search (RFC 2045 §6.7).
pub record QuotedLaws : Type 0 where
  -- A `=` and two hexadecimal digits are a byte. Where they don't stand at the front, the first byte stands for itself.
  pub nothing : unescaped [] ≡ []
  pub escaped : (high low : ℕ) (rest : List ℕ) → is_hex high ≡ true → is_hex low ≡ true →
      unescaped (61 ∷ high ∷ low ∷ rest) ≡ (digit_value high * 16 + digit_value low) ∷ unescaped rest
  pub itself : (c : ℕ) (rest : List ℕ) → escape (c ∷ rest) ≡ None → unescaped (c ∷ rest) ≡ c ∷ unescaped rest
  -- A line is followed by its end and what stands behind. Blanks at its end are no part of it.
  pub ended : (line blanks rest : List ℕ) → has 13 line ≡ false → without_blank_end line ≡ line → without_equals line ≡ None → AreBlanks blanks →
      decoded_quoted (line ++ (blanks ++ 13 ∷ 10 ∷ rest)) ≡ unescaped line ++ 13 ∷ 10 ∷ decoded_quoted rest
  -- A `=` at its end joins it with the next.
  pub joined : (line blanks rest : List ℕ) → has 13 line ≡ false → AreBlanks blanks →
      decoded_quoted (line ++ 61 ∷ (blanks ++ 13 ∷ 10 ∷ rest)) ≡ unescaped line ++ decoded_quoted rest
