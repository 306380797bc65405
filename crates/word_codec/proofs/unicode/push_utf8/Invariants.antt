use Rattle.std.proofs.Common.{◌≡◌, ◌++◌, length, string_bytes}
use Rattle.word_codec.specs.Utf8.{utf8_text}
use Rattle.word_codec.proofs.unicode.push_utf8.Given as goal

-- What is written, and the text of the bytes that are left.
abbrev pub invariant-bytes : goal.invariant-bytes
invariant-bytes l = string_bytes l.out ++ utf8_text l.rest ≡ string_bytes l.fn.out ++ utf8_text l.bytes

abbrev pub decreases-bytes : goal.decreases-bytes
decreases-bytes l = length l.rest
