-- What the body of a message or a part is, by the fields as they were read.
use Rattle.std.specs.Prelude.{ℕ, Bool, false, ◌&&◌, ◌||◌, not, if◌then◌else◌, List, [], ◌∷◌, codes, Option, Some, None}
use Rattle.std.specs.Option.{option_and_then, unwrap_or}
use Rattle.mail_text.specs.Case.{is_same}
use Rattle.mime_tree.specs.declared.values.Field.{Field}
use Rattle.mime_tree.specs.declared.values.Value.{Value}
use Rattle.mime_tree.specs.declared.values.Value.TheVariants.{Text, Addresses, Date, Ids}
use Rattle.mime_reader.specs.declared.content_types.ContentType.{ContentType}
use Rattle.mime_reader.specs.declared.kinds.BodyKind.{BodyKind}
use Rattle.mime_reader.specs.declared.kinds.BodyKind.TheVariants.{Multipart, Embedded, Single}
use Rattle.mime_reader.specs.ContentTypes.{content_type_of, parameter_value}

-- The text of a value that is text.
abbrev pub text_of : Value → Option (List ℕ)
text_of (Text text) = Some text
text_of (Addresses items) = None
text_of (Date date) = None
text_of (Ids ids) = None

-- The text of the first field with a name, in any case.
abbrev pub first_text : List ℕ → List Field → Option (List ℕ)
first_text name [] = None
first_text name (f ∷ fs) = if is_same f.name name then text_of f.value else first_text name fs

-- The type where none is named (RFC 2045 §5.2, RFC 2046 §5.1.5).
abbrev pub default_type : Bool → ContentType
default_type digest =
    if digest then record { top_level = codes "message"; subtype = codes "rfc822"; parameters = [] }
    else record { top_level = codes "text"; subtype = codes "plain"; parameters = [] }

-- The type that the first Content-Type field names, in a part of a digest or elsewhere.
unfoldable pub type_of : Bool → List Field → ContentType
type_of digest fields = unwrap_or (option_and_then content_type_of (first_text (codes "Content-Type") fields)) (default_type digest)

abbrev pub is_text : List ℕ → Option (List ℕ) → Bool
is_text name None = false
is_text name (Some text) = is_same text name

-- Whether the first Content-Transfer-Encoding field names an encoding, in any case (RFC 2045 §6.1).
unfoldable pub has_encoding : List ℕ → List Field → Bool
has_encoding name fields = is_text name (first_text (codes "Content-Transfer-Encoding") fields)

abbrev pub boundary_in : ContentType → Option (List ℕ)
boundary_in type = parameter_value (codes "boundary") type.parameters

-- What a body of a type is, by whether it is in base64, or in quoted-printable.
abbrev pub kind_by : ContentType → Bool → Bool → BodyKind
kind_by type base64 quoted =
    if is_same type.top_level (codes "multipart") then Multipart (boundary_in type) (is_same type.subtype (codes "digest"))
    else (if (is_same type.top_level (codes "message") && is_same type.subtype (codes "rfc822")) && not (base64 || quoted) then Embedded
    else Single base64)

-- What a body is, in a part of a digest or elsewhere.
unfoldable pub body_kind : Bool → List Field → BodyKind
body_kind digest fields = kind_by (type_of digest fields) (has_encoding (codes "base64") fields) (has_encoding (codes "quoted-printable") fields)

-- The boundary that the fields of a multipart name; empty where they name none.
unfoldable pub boundary_of : List Field → List ℕ
boundary_of fields = unwrap_or (boundary_in (type_of false fields)) []
