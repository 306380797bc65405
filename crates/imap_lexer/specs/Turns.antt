-- Units as they are written: lines and literals in turn (RFC 3501 §2.2.1, §4.3).
use Rattle.std.specs.Prelude.{ℕ, ◌≡◌, ◌≢◌, ◌≤◌, ◌+◌, List, [], ◌∷◌, ◌++◌, Some, None, length, map}
use Rattle.std.specs.List.{sum_by}
use Rattle.imap_lexer.specs.declared.units.Form.{Form}
use Rattle.imap_lexer.specs.declared.units.Fed.{Fed}
use Rattle.imap_lexer.specs.declared.units.Fed.TheVariants.{More, Continue, Unit as Whole}
use Rattle.imap_lexer.specs.Literals.{line_end, literal_behind}
use Rattle.imap_lexer.specs.Units.{line_limit, literal_limit}

-- A line without its CRLF, and the literal behind it.
pub record Turn : Type 0 where
  pub line : List ℕ
  pub literal : List ℕ

-- a line with its CRLF
abbrev pub with_end : List ℕ → List ℕ
with_end line = line ++ line_end

-- lines, each with the literal behind it, and a last line
abbrev pub in_turn : List Turn → List ℕ → List ℕ
in_turn [] last = with_end last
in_turn (turn ∷ turns) last = with_end turn.line ++ (turn.literal ++ in_turn turns last)

-- The bytes of a line have no CRLF among them.
abbrev pub IsLine : List ℕ → Type 0
IsLine line = (front behind : List ℕ) → line ≢ front ++ line_end ++ behind

-- A line announces the literal behind it.
pub record IsTurn (form : Form) (turn : Turn) : Type 0 where
  pub line : IsLine turn.line
  pub announced : literal_behind form (with_end turn.line) ≡ Some (length turn.literal)

abbrev pub AreTurns : Form → List Turn → Type 0
AreTurns form [] = Unit {0}
AreTurns form (turn ∷ turns) = IsTurn form turn × AreTurns form turns

-- how many bytes the lines have together, with their CRLFs
abbrev pub line_bytes : List Turn → List ℕ → ℕ
line_bytes turns last = sum_by (λ turn. length (with_end turn.line)) turns + length (with_end last)

-- how many bytes the literals have together
abbrev pub literal_bytes : List Turn → ℕ
literal_bytes turns = sum_by (λ turn. length turn.literal) turns

-- Lines and literals in turn are a unit: the last line alone announces none, and both keep to their limits.
pub record IsUnit (form : Form) (turns : List Turn) (last : List ℕ) : Type 0 where
  pub turns_are : AreTurns form turns
  pub last_is : IsLine last
  pub unannounced : literal_behind form (with_end last) ≡ None
  pub lines_fit : line_bytes turns last ≤ line_limit
  pub literals_fit : literal_bytes turns ≤ literal_limit

-- The lines and literals that a unit is.
pub record Written (form : Form) (unit : List ℕ) : Type 0 where
  pub turns : List Turn
  pub last : List ℕ
  pub is_unit : IsUnit form turns last
  pub bytes : unit ≡ in_turn turns last

-- the fronts of a text, from its first byte to all of it
abbrev pub fronts : List ℕ → List (List ℕ)
fronts [] = []
fronts (byte ∷ bytes) = (byte ∷ []) ∷ map (λ front. byte ∷ front) (fronts bytes)

-- each of these bytes shows that the unit goes on
abbrev pub more_in : List ℕ → List Fed
more_in bytes = map (λ byte. More) bytes

-- What the fronts of lines and literals in turn show: that the unit goes on, with a prompt at each LF behind an
-- announcement, and that it is whole at the last.
abbrev pub shown_in_turn : List Turn → List ℕ → List Fed
shown_in_turn [] last = more_in last ++ More ∷ Whole ∷ []
shown_in_turn (turn ∷ turns) last = more_in turn.line ++ More ∷ Continue ∷ (more_in turn.literal ++ shown_in_turn turns last)
