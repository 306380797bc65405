-- Base64 as the body of a message, in lines (RFC 2045 §6.8).
use Rattle.std.specs.Prelude.{ℕ, zero, suc, ◌+◌, ◌*◌, ◌/◌, Bool, not, ◌||◌, ◌==◌, List, [], ◌∷◌, ◌++◌, length, take, drop, Option}
use Rattle.std.specs.List.{filter, flat_map}
use Rattle.mail_text.specs.Texts.{is_blank}
use Rattle.transfer_codec.specs.Base64.{base64, decoded}

-- What a body has between its letters: blanks and line ends.
abbrev pub is_layout : ℕ → Bool
is_layout c = is_blank c || (c == 13 || c == 10)

abbrev pub is_content : ℕ → Bool
is_content c = not (is_layout c)

abbrev pub without_layout : List ℕ → List ℕ
without_layout body = filter is_content body

-- The bytes that a body is the base64 of, blanks and line ends apart; none where it is that of none.
abbrev pub decoded64 : List ℕ → Option (List ℕ)
decoded64 body = decoded (without_layout body)

-- A text cut into pieces of a width, of which the last may be shorter. Each turn cuts one off; a text has no more pieces
-- than bytes.
abbrev pub cut : ℕ → ℕ → List ℕ → List (List ℕ)
cut width turns [] = []
cut width zero (c ∷ cs) = []
cut width (suc turns) (c ∷ cs) = take width (c ∷ cs) ∷ cut width turns (drop width (c ∷ cs))

abbrev pub pieces_of : ℕ → List ℕ → List (List ℕ)
pieces_of width text = cut width (length text) text

-- A line with its end.
abbrev pub ended : List ℕ → List ℕ
ended line = line ++ 13 ∷ 10 ∷ []

-- The base64 of bytes in lines of 76 letters, of which the last may be shorter, each with a CRLF.
unfoldable pub printed64 : List ℕ → List ℕ
printed64 bytes = flat_map ended (pieces_of 76 (base64 bytes))

-- How long the print of so many bytes is: four letters for each three bytes begun, and a CRLF for each 57.
abbrev pub printed64_size : ℕ → ℕ
printed64_size size = (size + 2) / 3 * 4 + (size + 56) / 57 * 2
