-- The structure of a message (RFC 3501 §7.4.2, §9 body): BODY, and with extension data BODYSTRUCTURE.
use Rattle.std.specs.Prelude.{ℕ, Bool, false, ◌&&◌, if◌then◌else◌, List, [], ◌∷◌, ◌++◌, length, map, codes, decimal, Option, Some, None}
use Rattle.std.specs.Option.{option_and_then, unwrap_or}
use Rattle.std.specs.Str.{str_to_ascii_uppercase}
use Rattle.mail_text.specs.Case.{is_same}
use Rattle.mime_tree.specs.declared.values.Field.{Field}
use Rattle.mime_tree.specs.Trees.{Tree, Content, Trees}
use Rattle.mime_tree.specs.Trees.Tree.{node}
use Rattle.mime_tree.specs.Trees.Content.{leaf, multi, nested}
use Rattle.mime_tree.specs.Trees.Trees.{none, more}
use Rattle.mime_reader.specs.declared.content_types.ContentType.{ContentType}
use Rattle.mime_reader.specs.declared.content_types.Parameter.{Parameter}
use Rattle.mime_reader.specs.declared.parameters.TokenWithParameters.{TokenWithParameters}
use Rattle.mime_reader.specs.Kinds.{first_text}
use Rattle.mime_reader.specs.Parameters.{named_type_of, token_with_parameters_of}
use Rattle.canon_writer.specs.Counting.{capped}
use Rattle.canon_writer.specs.Printing.{print, print_leaf}
use Rattle.imap_writer.specs.Texts.{text_of}
use Rattle.imap_writer.specs.Spaced.{behind_space, spaced}
use Rattle.envelope_view.specs.Envelope.{nil, field_text, envelope}
use Rattle.envelope_view.specs.Lines.{line_count}

-- A word whose case doesn't matter, as a string.
unfoldable pub capitals : List ℕ → List ℕ
capitals word = text_of (str_to_ascii_uppercase word)

-- How many bytes and lines a text has; the greatest number of 64 bits where there are more.
abbrev pub size_of : List ℕ → ℕ
size_of text = capped (length text)

abbrev pub lines_of : List ℕ → ℕ
lines_of text = capped (line_count text)

abbrev pub parameter_text : Parameter → List ℕ
parameter_text p = capitals p.name ++ codes " " ++ text_of p.value

-- All parameters in their order, or NIL.
unfoldable pub parameters_text : List Parameter → List ℕ
parameters_text [] = nil
parameters_text (p ∷ ps) = codes "(" ++ spaced (map parameter_text (p ∷ ps)) ++ codes ")"

-- The type where the fields name none: plain text in US-ASCII (RFC 2045 §5.2), and in a part of a digest a message
-- (RFC 2046 §5.1.5).
abbrev pub default_type : Bool → ContentType
default_type digest =
    if digest then record { top_level = codes "message"; subtype = codes "rfc822"; parameters = [] }
    else record { top_level = codes "text"; subtype = codes "plain"; parameters = record { name = codes "charset"; value = codes "US-ASCII" } ∷ [] }

unfoldable pub type_of : Bool → List Field → ContentType
type_of digest fields = unwrap_or (named_type_of fields) (default_type digest)

-- The two types of a leaf. Bytes that were not read as a message aren't shown as one: a client would look for its envelope.
unfoldable pub leaf_types : ContentType → List ℕ
leaf_types type =
    if is_same type.top_level (codes "message") && is_same type.subtype (codes "rfc822") then codes "\"APPLICATION\" \"OCTET-STREAM\""
    else capitals type.top_level ++ codes " " ++ capitals type.subtype

abbrev pub encoding_or_7bit : Option (List ℕ) → List ℕ
encoding_or_7bit None = codes "\"7BIT\""
encoding_or_7bit (Some []) = codes "\"7BIT\""
encoding_or_7bit (Some (c ∷ cs)) = capitals (c ∷ cs)

-- The encoding that the fields name (RFC 2045 §6.1).
unfoldable pub encoding_text : List Field → List ℕ
encoding_text fields = encoding_or_7bit (first_text (codes "Content-Transfer-Encoding") fields)

-- What is told of each part that isn't a multipart, behind its types: parameters, id, description, encoding and size
-- (RFC 3501 §9 body-fields).
unfoldable pub body_fields : ContentType → List Field → ℕ → List ℕ
body_fields type fields size =
    parameters_text type.parameters
    ++ behind_space (field_text (codes "Content-ID") fields)
    ++ behind_space (field_text (codes "Content-Description") fields)
    ++ behind_space (encoding_text fields)
    ++ behind_space (decimal size)

-- The lines of a text; of other bytes they aren't told.
unfoldable pub text_lines : ContentType → List ℕ → List ℕ
text_lines type body = if is_same type.top_level (codes "text") then behind_space (decimal (lines_of body)) else []

abbrev pub disposition_or_nil : Option TokenWithParameters → List ℕ
disposition_or_nil None = nil
disposition_or_nil (Some found) = codes "(" ++ capitals found.token ++ codes " " ++ parameters_text found.parameters ++ codes ")"

-- How a part is to be shown (RFC 2183 §2).
unfoldable pub disposition_text : List Field → List ℕ
disposition_text fields = disposition_or_nil (option_and_then token_with_parameters_of (first_text (codes "Content-Disposition") fields))

-- The extension data that all parts have: disposition, language and location (RFC 3501 §9 body-ext-1part, body-ext-mpart).
unfoldable pub place_fields : List Field → List ℕ
place_fields fields =
    disposition_text fields ++ behind_space (field_text (codes "Content-Language") fields) ++ behind_space (field_text (codes "Content-Location") fields)

-- Extension data of a part, and before it of a multipart the parameters, of any other the checksum (RFC 1864 §2).
unfoldable pub single_extension : Bool → List Field → List ℕ
single_extension extended fields = if extended then behind_space (field_text (codes "Content-MD5") fields) ++ behind_space (place_fields fields) else []

unfoldable pub multipart_extension : Bool → ContentType → List Field → List ℕ
multipart_extension extended type fields = if extended then behind_space (parameters_text type.parameters) ++ behind_space (place_fields fields) else []

-- A part whose body, as it stands in the message, is this text.
unfoldable pub leaf_structure : Bool → ContentType → List Field → List ℕ → List ℕ
leaf_structure extended type fields body = leaf_types type ++ behind_space (body_fields type fields (size_of body)) ++ text_lines type body ++ single_extension extended fields

-- What stands behind the parts of a multipart.
unfoldable pub multipart_end : Bool → ContentType → List Field → List ℕ
multipart_end extended type fields = behind_space (capitals type.subtype) ++ multipart_extension extended type fields

abbrev pub fields_of : Tree → List Field
fields_of (node fields content) = fields

-- What stands before the structure of a message within.
unfoldable pub nested_head : ContentType → List Field → Tree → List ℕ
nested_head type fields tree = codes "\"MESSAGE\" \"RFC822\"" ++ behind_space (body_fields type fields (size_of (print tree))) ++ behind_space (envelope (fields_of tree))

abbrev mutual
  -- The structure of a message or a part, which may be one of a digest.
  pub structure : Bool → Bool → Tree → List ℕ
  structure extended digest (node fields content) = codes "(" ++ content_structure extended (type_of digest fields) fields content ++ codes ")"

  pub content_structure : Bool → ContentType → List Field → Content → List ℕ
  content_structure extended type fields (leaf encoding bytes) = leaf_structure extended type fields (print_leaf encoding bytes)
  content_structure extended type fields (multi trees) = parts_structure extended (is_same type.subtype (codes "digest")) trees ++ multipart_end extended type fields
  content_structure extended type fields (nested tree) =
      nested_head type fields tree ++ behind_space (structure extended false tree) ++ behind_space (decimal (lines_of (print tree))) ++ single_extension extended fields

  -- Parts with nothing between.
  pub parts_structure : Bool → Bool → Trees → List ℕ
  parts_structure extended digest none = []
  parts_structure extended digest (more tree trees) = structure extended digest tree ++ parts_structure extended digest trees
