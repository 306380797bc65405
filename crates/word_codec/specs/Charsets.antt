-- Bytes read by a charset, as texts in UTF-8.
use Rattle.std.specs.Prelude.{ℕ, nat_lt, if◌then◌else◌, List, map, codes, encode_utf8_all}
use Rattle.mail_text.specs.Case.{is_same}
use Rattle.word_codec.specs.declared.charsets.Charset.{Charset}
use Rattle.word_codec.specs.declared.charsets.Charset.TheVariants.{UsAscii, Utf8, Latin1}
use Rattle.word_codec.specs.Utf8.{utf8_text}

-- The charset of a name, in any case. Each other name, and no name, is as US-ASCII: what is over 127 isn't known.
unfoldable pub charset_of : List ℕ → Charset
charset_of name =
    if is_same name (codes "utf-8") then Utf8
    else (if is_same name (codes "iso-8859-1") then Latin1 else UsAscii)

-- The character of a byte in US-ASCII: that of its number, and U+FFFD where it is over 127.
abbrev pub ascii_char : ℕ → ℕ
ascii_char c = if nat_lt c 128 then c else 65533

-- Bytes in a charset, as a text. In ISO-8859-1 a byte is the character of its number.
abbrev pub text_in : Charset → List ℕ → List ℕ
text_in Utf8 bytes = utf8_text bytes
text_in Latin1 bytes = encode_utf8_all bytes
text_in UsAscii bytes = encode_utf8_all (map ascii_char bytes)

abbrev pub text_by : List ℕ → List ℕ → List ℕ
text_by name bytes = text_in (charset_of name) bytes
