-- Words on pieces: gaps, phrases, names, and what may be a local part or a domain (RFC 5322 §3.2.5, §3.4.1).
use Rattle.std.specs.Prelude.{ℕ, Bool, true, false, ◌&&◌, ◌||◌, if◌then◌else◌, List, [], ◌∷◌, ◌++◌, Option, Some, None}
use Rattle.mail_text.specs.Texts.{trimmed}
use Rattle.mail_text.specs.Lines.{ahead}
use Rattle.address_grammar.specs.declared.pieces.Special.{Special}
use Rattle.address_grammar.specs.declared.pieces.Special.TheVariants.{Comma, Colon, Semicolon, Open, Close, At}
use Rattle.address_grammar.specs.declared.pieces.Piece.{Piece}
use Rattle.address_grammar.specs.declared.pieces.Piece.TheVariants.{Run, Quoted, Comment, Literal, Mark, Blank}

abbrev pub same_special : Special → Special → Bool
same_special Comma Comma = true
same_special Colon Colon = true
same_special Semicolon Semicolon = true
same_special Open Open = true
same_special Close Close = true
same_special At At = true
same_special a b = false

-- White space and comments, which may stand between other pieces.
abbrev pub is_gap : Piece → Bool
is_gap (Comment text) = true
is_gap Blank = true
is_gap p = false

-- What words are made of.
abbrev pub is_wordlike : Piece → Bool
is_wordlike (Run text) = true
is_wordlike (Quoted text) = true
is_wordlike p = false

-- The text of a part of a word.
abbrev pub word_text : Piece → List ℕ
word_text (Run text) = text
word_text (Quoted text) = text
word_text p = []

-- Whether a piece is this special character.
abbrev pub is_mark : Special → Piece → Bool
is_mark special (Mark found) = same_special found special
is_mark special p = false

abbrev pub are_gaps : List Piece → Bool
are_gaps [] = true
are_gaps (p ∷ ps) = is_gap p && are_gaps ps

-- The pieces without white space and comments.
abbrev pub bare : List Piece → List Piece
bare [] = []
bare (p ∷ ps) = if is_gap p then bare ps else p ∷ bare ps

abbrev pub begins_word : List Piece → Bool
begins_word [] = false
begins_word (p ∷ ps) = is_wordlike p

-- The words of a phrase: runs and quoted strings with nothing between make one word.
abbrev pub words : List Piece → List (List ℕ)
words [] = []
words (p ∷ ps) =
    if is_wordlike p then (if begins_word ps then ahead (word_text p) (words ps) else word_text p ∷ words ps) else words ps

-- Words, each with a space before it.
abbrev pub each_spaced : List (List ℕ) → List ℕ
each_spaced [] = []
each_spaced (w ∷ ws) = 32 ∷ w ++ each_spaced ws

-- Words with one space between each two.
abbrev pub spaced : List (List ℕ) → List ℕ
spaced [] = []
spaced (w ∷ ws) = w ++ each_spaced ws

-- The name that a phrase gives.
abbrev pub name_of : List Piece → List ℕ
name_of ps = spaced (words ps)

-- A phrase: words with white space and comments (RFC 5322 §3.2.5). It may be empty.
abbrev pub is_phrase : List Piece → Bool
is_phrase [] = true
is_phrase (p ∷ ps) = (is_gap p || is_wordlike p) && is_phrase ps

-- A local part is a run or a quoted string.
abbrev pub local_of : Piece → Option (List ℕ)
local_of (Run text) = Some text
local_of (Quoted text) = Some text
local_of p = None

-- A domain is a run or a domain literal.
abbrev pub domain_of : Piece → Option (List ℕ)
domain_of (Run text) = Some text
domain_of (Literal text) = Some text
domain_of p = None

abbrev pub is_domain : Piece → Bool
is_domain (Run text) = true
is_domain (Literal text) = true
is_domain p = false

-- The white space and comments that pieces end with.
abbrev pub ending_gaps : List Piece → List Piece
ending_gaps [] = []
ending_gaps (p ∷ ps) = if are_gaps (p ∷ ps) then p ∷ ps else ending_gaps ps

-- The texts of comments.
abbrev pub comments : List Piece → List (List ℕ)
comments [] = []
comments (Comment text ∷ ps) = text ∷ comments ps
comments (p ∷ ps) = comments ps

-- The name that comments give: a single one does.
abbrev pub comment_name : List (List ℕ) → List ℕ
comment_name [] = []
comment_name (text ∷ []) = trimmed text
comment_name (text ∷ other ∷ more) = []
