-- What the definitions say, in the words of the standards.
use Rattle.std.specs.Prelude.{◌≡◌, ◌↔◌, ℕ, ◌<◌, true, List, [], ◌∷◌, ◌++◌, length, drop, Option, Some, None}
use Rattle.std.specs.List.{AllByRecursion}
use Rattle.std.specs.Char.{IsScalar, encode_utf8}
use Rattle.std.specs.Str.{StartsWithNoChar}
use Rattle.word_codec.specs.Utf8.{replacement, utf8_text}
use Rattle.word_codec.specs.Charsets.{text_by}
use Rattle.word_codec.specs.Words.{Word, encoding_of, is_inner, word_at}
use Rattle.word_codec.specs.Contents.{content_bytes}
use Rattle.word_codec.specs.Texts.{are_blanks, value_text}

-- Bytes read as UTF-8: either a character stands at their front, or the first byte is replaced.
pub record Utf8Laws : Type 0 where
  pub nothing : utf8_text [] ≡ []
  pub character : (c : ℕ) (rest : List ℕ) → IsScalar c → utf8_text (encode_utf8 c ++ rest) ≡ encode_utf8 c ++ utf8_text rest
  pub replaced : (b : ℕ) (rest : List ℕ) → StartsWithNoChar (b ∷ rest) → utf8_text (b ∷ rest) ≡ replacement ++ utf8_text rest

abbrev pub AreInner : List ℕ → Type 0
AreInner bytes = AllByRecursion (λ c. is_inner c ≡ true) bytes

-- A text that begins with an encoded word: `=?charset?letter?content?=` (RFC 2047 §2).
abbrev pub spelled : Word → ℕ → List ℕ → List ℕ
spelled word letter rest = 61 ∷ 63 ∷ (word.charset ++ 63 ∷ letter ∷ 63 ∷ (word.content ++ 63 ∷ 61 ∷ rest))

pub record BeginsWith (word : Word) (text : List ℕ) : Type 0 where
  pub letter : ℕ
  pub rest : List ℕ
  pub encoding_is : encoding_of letter ≡ Some word.encoding
  pub charset_inner : AreInner word.charset
  pub content_inner : AreInner word.content
  pub text_is : text ≡ spelled word letter rest

-- An encoded word is found at the front of a text exactly where the text begins with it.
pub record WordLaws : Type 0 where
  pub exact : (word : Word) (text : List ℕ) → (word_at text ≡ Some word) ↔ BeginsWith word text

-- A text in which no encoded word begins.
abbrev pub HasNoWord : List ℕ → Type 0
HasNoWord text = (k : ℕ) → k < length text → word_at (drop k text) ≡ None

abbrev pub bytes_of : Word → Option (List ℕ)
bytes_of word = content_bytes word.encoding word.content

-- How words and what stands behind them are shown.
pub record ValueLaws : Type 0 where
  -- A value without encoded words is read as UTF-8.
  pub plain : (value : List ℕ) → HasNoWord value → value_text value ≡ utf8_text value
  -- A word that is decoded is read by its charset, and what has no word behind it as UTF-8.
  pub last : (word : Word) (value bytes : List ℕ) (b : BeginsWith word value) → bytes_of word ≡ Some bytes → HasNoWord b.rest →
      value_text value ≡ text_by word.charset bytes ++ utf8_text b.rest
  -- Blanks between two words that are decoded are dropped.
  pub joined : (word next : Word) (value blanks following bytes more : List ℕ) (b : BeginsWith word value) → bytes_of word ≡ Some bytes →
      BeginsWith next following → bytes_of next ≡ Some more → are_blanks blanks ≡ true → b.rest ≡ blanks ++ following →
      value_text value ≡ text_by word.charset bytes ++ value_text following
  -- A word whose content has no meaning stays as it is.
  pub stays : (word : Word) (value : List ℕ) (b : BeginsWith word value) → bytes_of word ≡ None → HasNoWord b.rest → value_text value ≡ utf8_text value
