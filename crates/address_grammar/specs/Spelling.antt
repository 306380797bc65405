-- How the pieces of a value are spelled (RFC 5322 §3.2).
use Rattle.std.specs.Prelude.{◌≡◌, ℕ, Bool, true, false, ◌&&◌, ◌||◌, not, ◌==◌, List, [], ◌∷◌, ◌++◌, ◌⊎◌}
use Rattle.mail_text.specs.Texts.{begins}
use Rattle.address_grammar.specs.declared.pieces.Special.{Special}
use Rattle.address_grammar.specs.declared.pieces.Special.TheVariants.{Comma, Colon, Semicolon, Open, Close, At}
use Rattle.address_grammar.specs.declared.pieces.Piece.{Piece}
use Rattle.address_grammar.specs.declared.pieces.Piece.TheVariants.{Run, Quoted, Comment, Literal, Mark, Blank}
use Rattle.address_grammar.specs.Pieces.{is_plain}

-- What stands within a quoted string or a comment, from its front on.
pub data Inside : Type 0 where
  nothing : Inside
  -- a byte that stands for itself
  byte : ℕ → Inside → Inside
  -- a byte behind a `\`, taken as it is
  pair : ℕ → Inside → Inside
  -- a comment within
  comment : Inside → Inside → Inside

abbrev pub spelled : Inside → List ℕ
spelled nothing = []
spelled (byte c i) = c ∷ spelled i
spelled (pair c i) = 92 ∷ c ∷ spelled i
spelled (comment j i) = 40 ∷ (spelled j ++ 41 ∷ spelled i)

-- What it says: comments within keep their parentheses, and each quoting `\` is taken off.
abbrev pub content : Inside → List ℕ
content nothing = []
content (byte c i) = c ∷ content i
content (pair c i) = c ∷ content i
content (comment j i) = 40 ∷ (content j ++ 41 ∷ content i)

-- A quoted string has no bare `"` and no bare `\`.
abbrev pub is_quoted : Inside → Bool
is_quoted nothing = true
is_quoted (byte c i) = not (c == 34 || c == 92) && is_quoted i
is_quoted (pair c i) = is_quoted i
is_quoted (comment j i) = false

-- A comment has no bare parenthesis but those of the comments in it, and no bare `\`.
abbrev pub is_remark : Inside → Bool
is_remark nothing = true
is_remark (byte c i) = not (c == 40 || (c == 41 || c == 92)) && is_remark i
is_remark (pair c i) = is_remark i
is_remark (comment j i) = is_remark j && is_remark i

abbrev pub are_plain : List ℕ → Bool
are_plain [] = true
are_plain (c ∷ cs) = is_plain c && are_plain cs

-- Atoms and dots with nothing between, one byte at least.
abbrev pub is_run : List ℕ → Bool
is_run [] = false
is_run (c ∷ cs) = is_plain c && are_plain cs

-- Bytes of a domain literal.
abbrev pub are_literal : List ℕ → Bool
are_literal [] = true
are_literal (c ∷ cs) = not (c == 93 || (c == 91 || c == 92)) && are_literal cs

abbrev pub special_text : Special → List ℕ
special_text Comma = 44 ∷ []
special_text Colon = 58 ∷ []
special_text Semicolon = 59 ∷ []
special_text Open = 60 ∷ []
special_text Close = 62 ∷ []
special_text At = 64 ∷ []

-- How a piece is spelled.
abbrev pub IsSpelled : Piece → List ℕ → Type 0
IsSpelled (Run x) text = (text ≡ x) × (is_run x ≡ true)
IsSpelled (Quoted x) text = (i : Inside) × (is_quoted i ≡ true) × (text ≡ 34 ∷ (spelled i ++ 34 ∷ [])) × (x ≡ content i)
IsSpelled (Comment x) text = (i : Inside) × (is_remark i ≡ true) × (text ≡ 40 ∷ (spelled i ++ 41 ∷ [])) × (x ≡ content i)
IsSpelled (Literal x) text = (y : List ℕ) × (are_literal y ≡ true) × (text ≡ 91 ∷ (y ++ 93 ∷ [])) × (x ≡ text)
IsSpelled (Mark special) text = text ≡ special_text special
IsSpelled Blank text = (text ≡ 32 ∷ []) ⊎ (text ≡ 9 ∷ [])

-- A run goes on as long as it can.
abbrev pub EndsBefore : Piece → List ℕ → Type 0
EndsBefore (Run x) rest = begins is_plain rest ≡ false
EndsBefore p rest = Unit {0}

-- A text that is spelled as pieces, one after another.
abbrev pub IsText : List Piece → List ℕ → Type 0
IsText [] text = text ≡ []
IsText (p ∷ ps) text = (here : List ℕ) × (rest : List ℕ) × IsSpelled p here × (text ≡ here ++ rest) × EndsBefore p rest × IsText ps rest
