use Rattle.std.proofs.Common.{◌≡◌, ◌++◌, drop, map, string_bytes, encode_utf8_all}
use Rattle.word_codec.specs.Charsets.{ascii_char}
use Rattle.word_codec.proofs.charsets.push_ascii.Given as goal

-- What is written, and the characters of the bytes that are left.
abbrev pub invariant-loop-b : goal.invariant-loop-b
invariant-loop-b l = string_bytes l.out ++ encode_utf8_all (map (ascii_char) (drop l.b-index l.bytes)) ≡ string_bytes l.fn.out ++ encode_utf8_all (map (ascii_char) l.bytes)
