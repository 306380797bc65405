-- What the content of an encoded word stands for (RFC 2047 §4).
use Rattle.std.specs.Prelude.{ℕ, ◌==◌, if◌then◌else◌, List, [], ◌∷◌, Option, Some, None}
use Rattle.std.specs.Option.{option_map}
use Rattle.transfer_codec.specs.Scan.{scan}
use Rattle.transfer_codec.specs.Base64.{decoded}
use Rattle.transfer_codec.specs.Quoted.{escape}
use Rattle.word_codec.specs.declared.words.Encoding.{Encoding}
use Rattle.word_codec.specs.declared.words.Encoding.TheVariants.{Quoted, Base64}

-- A byte by itself: `_` is a space, and a `=` stands for nothing.
abbrev pub single : ℕ → Option ℕ
single c = if c == 61 then None else Some (if c == 95 then 32 else c)

-- `=` and two hexadecimal digits.
abbrev pub escaped : List ℕ → Option (ℕ × Option ℕ)
escaped text = option_map (λ byte. (3, Some byte)) (escape text)

-- The values, if none is missing.
abbrev pub all_some : List (Option ℕ) → Option (List ℕ)
all_some [] = Some []
all_some (None ∷ rest) = None
all_some (Some c ∷ rest) = option_map (λ cs. c ∷ cs) (all_some rest)

-- The bytes of a content, if it has any meaning.
unfoldable pub content_bytes : Encoding → List ℕ → Option (List ℕ)
content_bytes Quoted content = all_some (scan escaped single 0 content)
content_bytes Base64 content = decoded content
