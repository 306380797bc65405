-- Encoded words (RFC 2047 §2): `=?charset?Q?content?=`, or `B`.
use Rattle.std.specs.Prelude.{ℕ, ◌+◌, Bool, not, ◌&&◌, ◌||◌, ◌==◌, if◌then◌else◌, List, [], ◌∷◌, length, Option, Some, None}
use Rattle.mail_text.specs.Texts.{front, behind, is_blank}
use Rattle.word_codec.specs.declared.words.Encoding.{Encoding}
use Rattle.word_codec.specs.declared.words.Encoding.TheVariants.{Quoted, Base64}

-- A byte of a charset or of a content: no blank and no question mark.
abbrev pub is_inner : ℕ → Bool
is_inner c = not (is_blank c || c == 63)

-- The parts of an encoded word.
pub record Word : Type 0 where
  pub charset : List ℕ
  pub encoding : Encoding
  pub content : List ℕ

-- How long an encoded word is.
abbrev pub word_len : Word → ℕ
word_len word = length word.charset + length word.content + 7

-- The encoding of a letter, in either case.
abbrev pub encoding_of : ℕ → Option Encoding
encoding_of letter =
    if letter == 81 || letter == 113 then Some Quoted
    else (if letter == 66 || letter == 98 then Some Base64 else None)

-- The word, where `?=` stands behind its content.
abbrev pub ended_word : List ℕ → Option Encoding → List ℕ → List ℕ → Option Word
ended_word charset None content rest = None
ended_word charset (Some encoding) content [] = None
ended_word charset (Some encoding) content (c ∷ []) = None
ended_word charset (Some encoding) content (c ∷ d ∷ rest) =
    if c == 63 && d == 61 then Some (record { charset = charset; encoding = encoding; content = content }) else None

-- The word, where `?`, the encoding's letter and `?` stand behind its charset.
abbrev pub word_behind : List ℕ → List ℕ → Option Word
word_behind charset [] = None
word_behind charset (c ∷ []) = None
word_behind charset (c ∷ d ∷ []) = None
word_behind charset (c ∷ letter ∷ d ∷ rest) =
    if c == 63 && d == 63 then ended_word charset (encoding_of letter) (front is_inner rest) (behind is_inner rest) else None

-- The encoded word at the front of a text, if one stands there.
unfoldable pub word_at : List ℕ → Option Word
word_at [] = None
word_at (c ∷ []) = None
word_at (c ∷ d ∷ rest) = if c == 61 && d == 63 then word_behind (front is_inner rest) (behind is_inner rest) else None
