-- The first encoded word of a text, as the code finds it.
use Rattle.std.specs.Prelude.{◌≡◌, ℕ, ◌<◌, ◌≤◌, ◌+◌, List, length, drop, Some, None}
use Rattle.word_codec.specs.declared.words.EncodedWord.{EncodedWord}
use Rattle.word_codec.specs.Words.{Word, word_at, word_len}

abbrev pub parts : EncodedWord → Word
parts word = record { charset = word.charset.now; encoding = word.encoding; content = word.content.now }

-- No encoded word begins before the place.
abbrev pub NoneBefore : List ℕ → ℕ → Type 0
NoneBefore text place = (k : ℕ) → k < place → word_at (drop k text) ≡ None

-- The first encoded word stands at the place.
pub record IsFirst (text : List ℕ) (start : ℕ) (word : Word) : Type 0 where
  pub none_before : NoneBefore text start
  pub here : word_at (drop start text) ≡ Some word
  pub within : start + word_len word ≤ length text
