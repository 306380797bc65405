-- The lines of a text.
use Rattle.std.specs.Prelude.{◌≡◌, ℕ, Bool, false, ◌&&◌, ◌||◌, ◌==◌, if◌then◌else◌, List, [], ◌∷◌, ◌++◌, ◌⊎◌}
use Rattle.mail_text.specs.Texts.{begins}

-- An element in front of the first of the lists.
abbrev pub put : {A : Type 0} → A → List (List A) → List (List A)
put x [] = (x ∷ []) ∷ []
put x (l ∷ ls) = (x ∷ l) ∷ ls

-- A text in front of the first of the lists.
abbrev pub ahead : {A : Type 0} → List A → List (List A) → List (List A)
ahead w [] = w ∷ []
ahead w (l ∷ ls) = (w ++ l) ∷ ls

abbrev pub is_lf : ℕ → Bool
is_lf c = c == 10

-- The lines of a text. A line ends at a LF, and a CR right before the LF is no part of the line.
abbrev pub lines : List ℕ → List (List ℕ)
lines [] = [] ∷ []
lines (c ∷ cs) = if c == 13 && begins is_lf cs then lines cs else (if c == 10 then [] ∷ lines cs else put c (lines cs))

-- The lines with a CRLF between each two.
abbrev pub joined : List (List ℕ) → List ℕ
joined [] = []
joined (l ∷ []) = l
joined (l ∷ m ∷ ls) = l ++ 13 ∷ 10 ∷ joined (m ∷ ls)

-- A text whose every LF stands behind a CR: no LF is left to be turned into a CRLF.
abbrev pub IsCrlf : List ℕ → Type 0
IsCrlf text = joined (lines text) ≡ text

-- The first of the lists without its first element.
abbrev pub without_first : {A : Type 0} → List (List A) → List (List A)
without_first [] = []
without_first ([] ∷ ls) = [] ∷ ls
without_first ((x ∷ l) ∷ ls) = l ∷ ls

-- The pieces of a text between its CRLFs. A bare LF ends none.
abbrev pub pieces : List ℕ → List (List ℕ)
pieces [] = [] ∷ []
pieces (c ∷ cs) = if c == 13 && begins is_lf cs then [] ∷ without_first (pieces cs) else put c (pieces cs)

-- Whether a text has a byte.
abbrev pub has : ℕ → List ℕ → Bool
has b [] = false
has b (c ∷ cs) = c == b || has b cs

-- Lines that can stand between CRLFs: there is one at least, and none has a LF.
abbrev pub AreLines : List (List ℕ) → Type 0
AreLines [] = ⊥
AreLines (l ∷ []) = has 10 l ≡ false
AreLines (l ∷ m ∷ ls) = (has 10 l ≡ false) × AreLines (m ∷ ls)

-- Whether a text ends with a CR.
abbrev pub ends_in_cr : List ℕ → Bool
ends_in_cr [] = false
ends_in_cr (c ∷ []) = c == 13
ends_in_cr (c ∷ d ∷ ds) = ends_in_cr (d ∷ ds)

-- A line without a CR at its end.
abbrev pub IsWithoutReturn : List ℕ → List ℕ → Type 0
IsWithoutReturn line short = (line ≡ short ++ 13 ∷ []) ⊎ ((line ≡ short) × (ends_in_cr line ≡ false))

-- The first line of a text, its line end, and what stands behind.
pub record IsFirstLine (text line rest : List ℕ) : Type 0 where
  pub ending : List ℕ
  pub is_ending : (ending ≡ 13 ∷ 10 ∷ []) ⊎ (ending ≡ 10 ∷ [])
  pub text_is : text ≡ line ++ (ending ++ rest)
  pub lines_are : (y : List ℕ) → lines (line ++ (ending ++ y)) ≡ line ∷ lines y

-- How the lines of texts go together.
pub record LineLaws : Type 0 where
  -- What stands behind a CRLF has lines of its own.
  pub appended : (x y : List ℕ) → lines (x ++ 13 ∷ 10 ∷ y) ≡ lines x ++ lines y
  -- Lines that are joined are read as these lines.
  pub read_again : (ls : List (List ℕ)) → AreLines ls → lines (joined ls) ≡ ls
  -- The lines of a text can be joined, and joined they are a text with CRLFs alone.
  pub are_lines : (x : List ℕ) → AreLines (lines x)
  pub is_crlf : (x : List ℕ) → IsCrlf (joined (lines x))
  -- The pieces between the CRLFs are the lines where there are no other line ends, and joined they are any text again.
  pub pieces_of_crlf : (x : List ℕ) → IsCrlf x → pieces x ≡ lines x
  pub pieces_joined : (x : List ℕ) → joined (pieces x) ≡ x
