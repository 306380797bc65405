-- The text of a header field's value (RFC 2047 §6.2): its encoded words decoded, and the rest read as UTF-8.
use Rattle.std.specs.Prelude.{ℕ, Bool, true, ◌&&◌, if◌then◌else◌, List, [], ◌∷◌, ◌++◌, take, Option, Some, None}
use Rattle.std.specs.Option.{option_map}
use Rattle.mail_text.specs.Texts.{is_blank}
use Rattle.transfer_codec.specs.Scan.{scan}
use Rattle.word_codec.specs.Utf8.{utf8_text}
use Rattle.word_codec.specs.Charsets.{text_by}
use Rattle.word_codec.specs.Words.{word_at, word_len}
use Rattle.word_codec.specs.Contents.{content_bytes}

-- A piece of a value: bytes that stay as they are, or the text of an encoded word.
pub data Piece : Type 0 where
  Plain : List ℕ → Piece
  Decoded : List ℕ → Piece

-- The piece that an encoded word is: where its content has no meaning, the whole word stays.
abbrev pub piece_of : Option (List ℕ) → List ℕ → List ℕ → Piece
piece_of None charset whole = Plain whole
piece_of (Some bytes) charset whole = Decoded (text_by charset bytes)

abbrev pub piece_at : List ℕ → Option (ℕ × Piece)
piece_at value = option_map (λ word. (word_len word, piece_of (content_bytes word.encoding word.content) word.charset (take (word_len word) value))) (word_at value)

-- The pieces of a value: encoded words are found from the left, wherever they stand.
abbrev pub pieces : List ℕ → List Piece
pieces value = scan piece_at (λ c. Plain (c ∷ [])) 0 value

-- A value cut at the encoded words that are decoded: the bytes in front of the first, and each word's text with the bytes
-- between it and the next.
pub record Cut : Type 0 where
  pub lead : List ℕ
  pub words : List (List ℕ × List ℕ)

abbrev pub with_plain : List ℕ → Cut → Cut
with_plain bytes cut = record { lead = bytes ++ cut.lead; words = cut.words }

abbrev pub with_text : List ℕ → Cut → Cut
with_text word cut = record { lead = []; words = (word, cut.lead) ∷ cut.words }

abbrev pub cut_of : List Piece → Cut
cut_of [] = record { lead = []; words = [] }
cut_of (Plain bytes ∷ rest) = with_plain bytes (cut_of rest)
cut_of (Decoded word ∷ rest) = with_text word (cut_of rest)

abbrev pub are_blanks : List ℕ → Bool
are_blanks [] = true
are_blanks (c ∷ cs) = is_blank c && are_blanks cs

-- What is shown of bytes behind a word's text: blanks alone are dropped where another word follows.
abbrev pub behind_word : List ℕ → List (List ℕ × List ℕ) → List ℕ
behind_word bytes [] = utf8_text bytes
behind_word bytes (word ∷ words) = if are_blanks bytes then [] else utf8_text bytes

abbrev pub words_text : List (List ℕ × List ℕ) → List ℕ
words_text [] = []
words_text (word ∷ words) = word.0 ++ (behind_word word.1 words ++ words_text words)

-- The text of a value.
unfoldable pub value_text : List ℕ → List ℕ
value_text value = let cut = cut_of (pieces value) in utf8_text cut.lead ++ words_text cut.words
