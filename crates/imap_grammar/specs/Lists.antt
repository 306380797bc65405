-- Lists of what one rule reads.
use Rattle.std.specs.Prelude.{◌≡◌, ◌≤◌, ℕ, zero, suc, if◌then◌else◌, List, [], ◌∷◌, ◌++◌, length, Some}
use Rattle.imap_grammar.specs.Readings.{Reading, ◌>>=◌, ◌>>◌, byte, begun, pure, nothing, sees, after}

-- One or more, each two with a byte between, behind what was found. The number bounds the turns; each turn takes a byte, so the
-- length of the text is enough.
unfoldable pub separated_from : {A : Type 0} → ℕ → Reading A → ℕ → List A → Reading (List A)
separated_from between item zero found = nothing
separated_from between item (suc turns) found = do
  x ← item
  λ text. if sees between text then separated_from between item turns (found ++ x ∷ []) (after between text) else Some (found ++ x ∷ [], text)

-- One or more, each two with a byte between.
abbrev pub separated : {A : Type 0} → ℕ → Reading A → Reading (List A)
separated between item = λ text. separated_from between item (length text) [] text

-- One or more in parentheses, with spaces between.
abbrev pub listed : {A : Type 0} → Reading A → Reading (List A)
listed item = do
  byte 40
  xs ← separated 32 item
  byte 41
  pure xs

-- More turns than a text has bytes read the same.
abbrev pub TurnsSuffice : {A : Type 0} → Reading A → Type 0
TurnsSuffice item = (between turns : ℕ) (text : List ℕ) → length text ≤ turns → separated_from between item turns [] text ≡ separated between item text

-- A list is one, or one and behind the byte between a list.
abbrev pub IsOneOrMore : {A : Type 0} → Reading A → Type 0
IsOneOrMore item = (between : ℕ) (text : List ℕ) → separated between item text ≡ (item >>= (λ x. begun between (byte between >> (separated between item >>= (λ xs. pure (x ∷ xs)))) (pure (x ∷ [])))) text

-- What lists of the rule are, whatever counts the turns.
abbrev pub IsList : {A : Type 0} → Reading A → Type 0
IsList item = TurnsSuffice item × IsOneOrMore item
