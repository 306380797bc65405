-- What fields name of a part: a token with parameters, a type, an encoding.
use Rattle.std.specs.Prelude.{ℕ, ◌==◌, if◌then◌else◌, List, length, codes, Option, Some, None}
use Rattle.std.specs.Option.{option_map, option_and_then, unwrap_or}
use Rattle.mail_text.specs.Texts.{begins, front, behind}
use Rattle.mail_text.specs.Case.{is_same}
use Rattle.mime_tree.specs.declared.values.Field.{Field}
use Rattle.mime_reader.specs.declared.content_types.ContentType.{ContentType}
use Rattle.mime_reader.specs.declared.parameters.TokenWithParameters.{TokenWithParameters}
use Rattle.mime_reader.specs.declared.encodings.TransferEncoding.{TransferEncoding}
use Rattle.mime_reader.specs.declared.encodings.TransferEncoding.TheVariants.{Absent, Base64, QuotedPrintable, Other}
use Rattle.mime_reader.specs.ContentTypes.{is_token, parameters_of, content_type_of}
use Rattle.mime_reader.specs.Kinds.{first_text}

-- The token at the front of a value, and the parameters behind it; None where no token stands there. What is behind the last
-- parameter counts for nothing.
abbrev pub token_with_parameters_of : List ℕ → Option TokenWithParameters
token_with_parameters_of value =
    if begins is_token value then Some (record { token = front is_token value; parameters = parameters_of (behind is_token value) }) else None

-- The type that the first Content-Type field names; None where there is no such field, or where it names none.
abbrev pub named_type_of : List Field → Option ContentType
named_type_of fields = option_and_then content_type_of (first_text (codes "Content-Type") fields)

-- The encoding that a text names, in any case. An empty text names none.
abbrev pub encoding_named : List ℕ → TransferEncoding
encoding_named name =
    if is_same name (codes "base64") then Base64
    else (if is_same name (codes "quoted-printable") then QuotedPrintable else (if length name == 0 then Absent else Other))

-- The encoding that the first Content-Transfer-Encoding field names.
abbrev pub transfer_encoding_of : List Field → TransferEncoding
transfer_encoding_of fields = unwrap_or (option_map encoding_named (first_text (codes "Content-Transfer-Encoding") fields)) Absent
