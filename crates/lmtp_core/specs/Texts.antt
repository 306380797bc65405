-- Texts of mail as they are sent: lines up to one that is `.` alone, a dot put in front of each line that begins with
-- one (RFC 5321 §4.1.1.4, §4.5.2).
use Rattle.std.specs.Prelude.{ℕ, ◌==◌, ◌≡◌, Bool, false, List, [], ◌∷◌, ◌++◌, Option, Some, None, length, nat_lt, option_map, if◌then◌else◌}
use Rattle.std.specs.List.{flat_map}
use Rattle.mail_text.specs.Lines.{joined, pieces}
use Rattle.lmtp_core.specs.Lines.{line_end}

-- How many bytes the content of a text may have.
abbrev pub content_limit : ℕ
content_limit = 33554432

-- whether a line is `.` alone, with which a text ends
abbrev pub is_dot : List ℕ → Bool
is_dot [] = false
is_dot (byte ∷ []) = byte == 46
is_dot (byte ∷ next ∷ more) = false

-- a line without one leading dot
abbrev pub undotted : List ℕ → List ℕ
undotted [] = []
undotted (byte ∷ line) = if byte == 46 then line else byte ∷ line

-- The content of the lines of a text: each without one leading dot, and with its CRLF.
abbrev pub content : List (List ℕ) → List ℕ
content lines = flat_map (λ line. undotted line ++ line_end) lines

-- A text that is cut off: its lines but the last, and the bytes behind it.
pub record Text : Type 0 where
  pub lines : List (List ℕ)
  pub rest : List ℕ

-- a text with one more line in front
abbrev pub behind_line : List ℕ → Option Text → Option Text
behind_line line text = option_map (λ found. record { lines = line ∷ found.lines; rest = found.rest }) text

-- the text of what stands between CRLFs, up to the first line `.`: what stands behind the last CRLF is no line
abbrev pub up_to_dot : List (List ℕ) → Option Text
up_to_dot [] = None
up_to_dot (last ∷ []) = None
up_to_dot (line ∷ next ∷ more) =
    if is_dot line then Some (record { lines = []; rest = joined (next ∷ more) }) else behind_line line (up_to_dot (next ∷ more))

-- The text at the front of some bytes, if it is whole.
unfoldable pub first_text : List ℕ → Option Text
first_text bytes = up_to_dot (pieces bytes)

-- A content that isn't too long.
abbrev pub bounded : List ℕ → Option (List ℕ)
bounded bytes = if nat_lt content_limit (length bytes) then None else Some bytes

-- How a text is sent (RFC 5321 §4.5.2): a dot in front of each line that begins with one, and a line `.` behind the last.
abbrev pub dotted : List ℕ → List ℕ
dotted [] = []
dotted (byte ∷ line) = if byte == 46 then 46 ∷ byte ∷ line else byte ∷ line

abbrev pub sent : List (List ℕ) → List ℕ
sent lines = flat_map (λ line. dotted line ++ line_end) lines ++ 46 ∷ line_end

-- Lines, which have no CRLF among their bytes.
abbrev pub AreLines : List (List ℕ) → Type 0
AreLines [] = Unit {0}
AreLines (line ∷ lines) = (pieces line ≡ line ∷ []) × AreLines lines
