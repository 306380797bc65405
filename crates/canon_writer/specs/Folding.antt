-- A field in lines (RFC 5322 §2.2.3). A line is folded before the blanks of the word that would take it over 78 bytes
-- (RFC 5322 §2.1.1).
use Rattle.std.specs.Prelude.{ℕ, ◌-◌, ◌&&◌, not, nat_lt, if◌then◌else◌, List, [], ◌∷◌, ◌++◌, length}
use Rattle.mail_text.specs.Texts.{begins, is_blank}
use Rattle.mail_text.specs.Lines.{put, ahead}

-- The words of a value, each with the blanks before it.
abbrev pub words : List ℕ → List (List ℕ)
words [] = []
words (c ∷ cs) = if not (is_blank c) && begins is_blank cs then (c ∷ []) ∷ words cs else put c (words cs)

-- How long a line may be before it is folded, in bytes.
abbrev pub line_width : ℕ
line_width = 78

-- Words in lines, with some room left in the first of them: a word that is longer than the room begins a line.
abbrev pub folded : ℕ → List (List ℕ) → List (List ℕ)
folded room [] = [] ∷ []
folded room (w ∷ ws) =
    if nat_lt room (length w) then [] ∷ ahead w (folded (line_width - length w) ws) else ahead w (folded (room - length w) ws)

-- Words in lines, the first of which stays in the line that has some room left.
abbrev pub words_behind : ℕ → List (List ℕ) → List (List ℕ)
words_behind room [] = [] ∷ []
words_behind room (w ∷ ws) = ahead w (folded (room - length w) ws)

-- The lines of a field: its name, a colon, and where the value isn't empty a space and the value.
abbrev pub field_lines : List ℕ → List ℕ → List (List ℕ)
field_lines name [] = (name ++ 58 ∷ []) ∷ []
field_lines name (c ∷ cs) =
    let start = name ++ 58 ∷ 32 ∷ [] in
    ahead start (words_behind (line_width - length start) (words (c ∷ cs)))
