-- How many lines a text has (RFC 3501 §7.4.2, body lines).
use Rattle.std.specs.Prelude.{ℕ, ◌+◌, List, [], ◌∷◌, length}
use Rattle.mail_text.specs.Lines.{pieces}

-- The pieces between CRLFs are lines; the last is one where it isn't empty.
abbrev pub whole_lines : List (List ℕ) → ℕ
whole_lines [] = 0
whole_lines ([] ∷ []) = 0
whole_lines ((c ∷ cs) ∷ []) = 1
whole_lines (l ∷ m ∷ ls) = whole_lines (m ∷ ls) + 1

-- One for each CRLF, and one for what stands behind the last.
unfoldable pub line_count : List ℕ → ℕ
line_count text = whole_lines (pieces text)

-- The same where a CRLF stands behind the text, so that its last piece is a line too.
unfoldable pub ended_lines : List ℕ → ℕ
ended_lines text = length (pieces text)
