-- Parts of a text of bytes.
use Rattle.std.specs.Prelude.{ℕ, Bool, false, ◌||◌, ◌==◌, if◌then◌else◌, List, [], ◌∷◌}

-- Whether a text begins with a byte that passes the test.
abbrev pub begins : (ℕ → Bool) → List ℕ → Bool
begins test [] = false
begins test (c ∷ cs) = test c

-- The bytes up to the first that does not pass the test.
abbrev pub front : (ℕ → Bool) → List ℕ → List ℕ
front test [] = []
front test (c ∷ cs) = if test c then c ∷ front test cs else []

-- What is left behind these.
abbrev pub behind : (ℕ → Bool) → List ℕ → List ℕ
behind test [] = []
behind test (c ∷ cs) = if test c then behind test cs else c ∷ cs

-- White space within a line: space and tab (RFC 5234 §B.1, WSP).
abbrev pub is_blank : ℕ → Bool
is_blank c = c == 32 || c == 9

-- A byte before a text that has no blanks at its end.
abbrev pub before_trimmed : ℕ → List ℕ → List ℕ
before_trimmed c [] = if is_blank c then [] else c ∷ []
before_trimmed c (d ∷ ds) = c ∷ d ∷ ds

-- A text without the blanks at its end.
abbrev pub without_blank_end : List ℕ → List ℕ
without_blank_end [] = []
without_blank_end (c ∷ cs) = before_trimmed c (without_blank_end cs)

-- A text without blanks at both ends.
abbrev pub trimmed : List ℕ → List ℕ
trimmed text = without_blank_end (behind is_blank text)
