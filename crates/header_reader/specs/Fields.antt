-- The fields of a header (RFC 5322 §2.2), by the list of its lines.
use Rattle.std.specs.Prelude.{ℕ, Bool, ◌&&◌, not, ◌==◌, nat_le, if◌then◌else◌, List, [], ◌∷◌, ◌++◌, map}
use Rattle.mail_text.specs.Texts.{begins, front, behind, is_blank, trimmed}
use Rattle.header_reader.specs.declared.raw.RawField.{RawField}

-- The lines of a text that are its header: those up to the first empty one.
abbrev pub header : List (List ℕ) → List (List ℕ)
header [] = []
header ([] ∷ ls) = []
header ((c ∷ l) ∷ ls) = (c ∷ l) ∷ header ls

-- The lines of a text that are its body: those behind the first empty one.
abbrev pub body : List (List ℕ) → List (List ℕ)
body [] = []
body ([] ∷ ls) = ls
body ((c ∷ l) ∷ ls) = body ls

-- A byte of a field's name: a printing character of ASCII but the colon (RFC 5322 §2.2).
abbrev pub is_name : ℕ → Bool
is_name c = nat_le 33 c && (nat_le c 126 && not (c == 58))

abbrev pub is_colon : ℕ → Bool
is_colon c = c == 58

abbrev pub is_dash : ℕ → Bool
is_dash c = c == 45

-- A text without its first byte.
abbrev pub rest : List ℕ → List ℕ
rest [] = []
rest (c ∷ cs) = cs

-- Whether a line could be taken for a delimiter between parts (RFC 2046 §5.1.1).
abbrev pub begins_with_dashes : List ℕ → Bool
begins_with_dashes line = begins is_dash line && begins is_dash (rest line)

-- A line of a field: its name, blanks or none, a colon. No name begins with `--`.
abbrev pub is_field_line : List ℕ → Bool
is_field_line line = begins is_name line && (not (begins_with_dashes line) && begins is_colon (behind is_blank (behind is_name line)))

-- A line behind the unfolded lines that follow it: it takes in the first of them if that begins with a blank.
abbrev pub continued : List ℕ → List (List ℕ) → List (List ℕ)
continued line [] = line ∷ []
continued line (m ∷ ms) = if begins is_blank m then (line ++ m) ∷ ms else line ∷ m ∷ ms

-- The lines, unfolded: one that begins with a blank continues the one before it (RFC 5322 §2.2.3).
abbrev pub unfolded : List (List ℕ) → List (List ℕ)
unfolded [] = []
unfolded (l ∷ ls) = continued l (unfolded ls)

-- What an unfolded line says: a name, and behind the first colon a value.
abbrev pub field_of : List ℕ → RawField
field_of line = record { name = front is_name line; value = trimmed (rest (behind (λ c. not (is_colon c)) line)) }

-- The fields of a header.
abbrev pub fields_of : List (List ℕ) → List RawField
fields_of ls = map field_of (unfolded ls)
