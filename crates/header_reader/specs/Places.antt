-- Where the body of a text begins.
use Rattle.std.specs.Prelude.{◌≡◌, ℕ, ◌+◌, ◌-◌, ◌<◌, ◌≤◌, List, [], ◌∷◌, ◌++◌, length, take, drop}
use Rattle.mail_text.specs.Lines.{lines}
use Rattle.header_reader.specs.Fields.{header, body}

-- The body's lines stand behind the place, and before it stands the header with the empty line and its end. Where no line
-- is behind the header, the place is the text's end.
abbrev pub StandsBehind : List (List ℕ) → List ℕ → ℕ → Type 0
StandsBehind [] text place = place ≡ length text
StandsBehind (l ∷ ls) text place =
    (place ≤ length text) × (lines (drop place text) ≡ l ∷ ls) × (lines (take place text) ≡ header (lines text) ++ [] ∷ [] ∷ [])

abbrev pub IsBodyPlace : List ℕ → ℕ → Type 0
IsBodyPlace text place = StandsBehind (body (lines text)) text place

-- A text's first line, where a text that has no line end is one line with nothing behind it: what it tells of the header and
-- of the body's place.
pub record IsNextLine (text line behind : List ℕ) : Type 0 where
  pub within : length behind ≤ length text
  pub shorter : 0 < length line → length behind < length text
  pub same_header : header (lines text) ≡ header (line ∷ lines behind)
  pub at_end : line ≡ [] → IsBodyPlace text (length text - length behind)
  pub later : (place : ℕ) → 0 < length line → IsBodyPlace behind place → IsBodyPlace text (length text - length behind + place)
