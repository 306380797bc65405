-- Bytes read as UTF-8 (RFC 3629), whatever they are.
use Rattle.std.specs.Prelude.{ℕ, if◌then◌else◌, List, [], ◌∷◌, take, Option, Some, None}
use Rattle.std.specs.List.{flat_map}
use Rattle.std.specs.Option.{option_map}
use Rattle.std.specs.Str.{is_utf8}
use Rattle.transfer_codec.specs.Scan.{scan}

-- How long the character at the front of bytes is: no shorter front of one byte or more is UTF-8. None where none is.
abbrev pub character_len : List ℕ → Option ℕ
character_len bytes =
    if is_utf8 (take 1 bytes) then Some 1
    else (if is_utf8 (take 2 bytes) then Some 2
    else (if is_utf8 (take 3 bytes) then Some 3
    else (if is_utf8 (take 4 bytes) then Some 4 else None)))

-- The bytes of the character at the front.
unfoldable pub character : List ℕ → Option (ℕ × List ℕ)
character bytes = option_map (λ n. (n, take n bytes)) (character_len bytes)

-- U+FFFD, the replacement character, in UTF-8.
abbrev pub replacement : List ℕ
replacement = 239 ∷ 191 ∷ 189 ∷ []

-- Bytes as a text in UTF-8: a byte that begins no character is replaced.
unfoldable pub utf8_text : List ℕ → List ℕ
utf8_text bytes = flat_map (λ part. part) (scan character (λ c. replacement) 0 bytes)
