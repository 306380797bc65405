-- What the parts of the reader find in a text.
use Rattle.std.specs.Prelude.{◌≡◌, ℕ, ◌<◌, ◌≤◌, true, List, ◌∷◌, length, drop, Option, Some, None, MatchOption}
use Rattle.address_grammar.specs.declared.pieces.Piece.{Piece}
use Rattle.address_grammar.specs.Pieces.{before, pieces}
use Rattle.address_grammar.specs.Words.{bare, ending_gaps, is_wordlike, word_text}
use Rattle.address_grammar.specs.Addresses.{addr}
use Rattle.address_grammar.specs.Addresses.AddrSpec.{addr_spec}

-- A piece that takes so many bytes of a text, of which this is the reading.
pub record IsPiece (reading : Option (List Piece)) (text : List ℕ) (piece : Piece) (taken : ℕ) : Type 0 where
  pub some : 0 < taken
  pub within : taken ≤ length text
  pub is : reading ≡ before piece (pieces (drop taken text))

-- A piece that a function makes of what was found, or no reading.
abbrev pub Finds : {A : Type 0} → Option (List Piece) → List ℕ → (A → Piece) → (A → ℕ) → Option A → Type 0
Finds reading text piece taken found = MatchOption found (reading ≡ None) (λ a. IsPiece reading text (piece a) (taken a))

-- The first of the bare pieces, and what is behind it.
pub record IsNext (ps : List Piece) (p : Piece) (rest : List Piece) : Type 0 where
  pub is : bare ps ≡ p ∷ bare rest
  pub same_end : ending_gaps ps ≡ ending_gaps rest
  pub shorter : length rest < length ps

-- The addr that pieces begin with.
pub record IsAddr (ps : List Piece) (local domain : List ℕ) (rest : List Piece) : Type 0 where
  pub is : addr (bare ps) ≡ Some (addr_spec local domain (bare rest))
  pub same_end : ending_gaps ps ≡ ending_gaps rest

-- The text of a part of a word.
pub record IsWordText (p : Piece) (text : List ℕ) : Type 0 where
  pub wordlike : is_wordlike p ≡ true
  pub is : word_text p ≡ text
