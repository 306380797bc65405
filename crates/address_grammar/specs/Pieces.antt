-- The pieces that the value of an address field is written in (RFC 5322 §3.2).
use Rattle.std.specs.Prelude.{ℕ, ◌+◌, ◌-◌, Bool, ◌&&◌, ◌||◌, ◌==◌, nat_lt, if◌then◌else◌, List, [], ◌∷◌, Option, Some, None, codes}
use Rattle.std.specs.Char.{is_ascii_alphanumeric}
use Rattle.mail_text.specs.Texts.{is_blank}
use Rattle.mail_text.specs.Lines.{has}
use Rattle.address_grammar.specs.declared.pieces.Special.{Special}
use Rattle.address_grammar.specs.declared.pieces.Special.TheVariants.{Comma, Colon, Semicolon, Open, Close, At}
use Rattle.address_grammar.specs.declared.pieces.Piece.{Piece}
use Rattle.address_grammar.specs.declared.pieces.Piece.TheVariants.{Run, Quoted, Comment, Literal, Mark, Blank}

-- A byte of an atom (RFC 5322 §3.2.3), or one that is not ASCII.
abbrev pub is_atom : ℕ → Bool
is_atom c = is_ascii_alphanumeric c || (has c (codes "!#$%&'*+-/=?^_`{|}~") || nat_lt 127 c)

-- A byte of a run of atoms and dots.
abbrev pub is_plain : ℕ → Bool
is_plain c = is_atom c || c == 46

-- The special characters that stand for themselves.
abbrev pub special_of : ℕ → Option Special
special_of c =
    if c == 44 then Some Comma else
    if c == 58 then Some Colon else
    if c == 59 then Some Semicolon else
    if c == 60 then Some Open else
    if c == 62 then Some Close else
    if c == 64 then Some At else None

-- A piece in front of others, where there are any.
abbrev pub before : Piece → Option (List Piece) → Option (List Piece)
before p None = None
before p (Some ps) = Some (p ∷ ps)

-- A piece with a byte in front of its text.
abbrev pub with_byte : ℕ → Piece → Piece
with_byte c (Run text) = Run (c ∷ text)
with_byte c (Quoted text) = Quoted (c ∷ text)
with_byte c (Comment text) = Comment (c ∷ text)
with_byte c (Literal text) = Literal (c ∷ text)
with_byte c (Mark special) = Mark special
with_byte c Blank = Blank

-- A byte in front of the text of the first piece.
abbrev pub onto : ℕ → Option (List Piece) → Option (List Piece)
onto c None = None
onto c (Some []) = Some []
onto c (Some (p ∷ ps)) = Some (with_byte c p ∷ ps)

-- A special character that stands for itself, in front of pieces.
abbrev pub marked : Option Special → Option (List Piece) → Option (List Piece)
marked None ps = None
marked (Some special) ps = before (Mark special) ps

-- What begins with a byte that is in no run: white space, a quoted string, a comment, a domain literal or a special
-- character, each with what is behind that byte.
abbrev pub apart : ℕ → Option (List Piece) → Option (List Piece) → Option (List Piece) → Option (List Piece) → Option (List Piece)
apart c outside quoted comment literal =
    if is_blank c then before Blank outside else
    if c == 34 then quoted else
    if c == 40 then comment else
    if c == 91 then onto 91 literal else marked (special_of c) outside

-- How many inner comments are open behind a byte.
abbrev pub depth_behind : ℕ → ℕ → ℕ
depth_behind depth c = if c == 40 then depth + 1 else if c == 41 then depth - 1 else depth

unfoldable mutual
  -- The pieces of a text, where it has a reading.
  pub pieces : List ℕ → Option (List Piece)
  pieces [] = Some []
  pieces (c ∷ cs) = if is_plain c then onto c (in_run cs) else apart c (pieces cs) (in_quotes cs) (in_comment 0 cs) (in_literal cs)

  -- The same behind a part of a run, which goes on as long as it can. The first piece has what is left of the run.
  pub in_run : List ℕ → Option (List Piece)
  in_run [] = Some (Run [] ∷ [])
  in_run (c ∷ cs) = if is_plain c then onto c (in_run cs) else before (Run []) (apart c (pieces cs) (in_quotes cs) (in_comment 0 cs) (in_literal cs))

  -- The same within a quoted string (RFC 5322 §3.2.4).
  pub in_quotes : List ℕ → Option (List Piece)
  in_quotes [] = None
  in_quotes (c ∷ cs) = if c == 34 then before (Quoted []) (pieces cs) else if c == 92 then quotes_pair cs else onto c (in_quotes cs)

  -- Behind a `\` in a quoted string: the next byte is taken as it is.
  pub quotes_pair : List ℕ → Option (List Piece)
  quotes_pair [] = None
  quotes_pair (c ∷ cs) = onto c (in_quotes cs)

  -- The same within a comment (RFC 5322 §3.2.2) and so many comments in it.
  pub in_comment : ℕ → List ℕ → Option (List Piece)
  in_comment depth [] = None
  in_comment depth (c ∷ cs) =
      if c == 92 then comment_pair depth cs else
      if c == 41 && depth == 0 then before (Comment []) (pieces cs) else onto c (in_comment (depth_behind depth c) cs)

  -- Behind a `\` in a comment.
  pub comment_pair : ℕ → List ℕ → Option (List Piece)
  comment_pair depth [] = None
  comment_pair depth (c ∷ cs) = onto c (in_comment depth cs)

  -- The same within a domain literal (RFC 5322 §3.4.1), whose text keeps its brackets.
  pub in_literal : List ℕ → Option (List Piece)
  in_literal [] = None
  in_literal (c ∷ cs) = if c == 93 then before (Literal (93 ∷ [])) (pieces cs) else if c == 91 || c == 92 then None else onto c (in_literal cs)
