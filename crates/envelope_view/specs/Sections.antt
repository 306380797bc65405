-- The sections of a message (RFC 3501 §6.4.5, BODY): texts of its print.
use Rattle.std.specs.Prelude.{ℕ, Bool, not, if◌then◌else◌, List, [], ◌∷◌, Option, Some, None}
use Rattle.std.specs.List.{filter}
use Rattle.std.specs.Option.{option_and_then}
use Rattle.mime_tree.specs.declared.values.Field.{Field}
use Rattle.mime_tree.specs.Trees.{Tree}
use Rattle.mime_tree.specs.Trees.Tree.{node}
use Rattle.header_reader.specs.Kinds.{is_among}
use Rattle.mime_reader.specs.Kinds.{boundary_of}
use Rattle.canon_writer.specs.Printing.{print, print_header, print_body}
use Rattle.imap_grammar.specs.declared.items.Section.{Section}
use Rattle.imap_grammar.specs.declared.items.SectionPart.{SectionPart}
use Rattle.imap_grammar.specs.declared.items.SectionPart.TheVariants.{Whole, Mime, Header, Fields, Text}
use Rattle.envelope_view.specs.Parts.{part_at, message_within}

-- The header of a message or a part, with the empty line, and its body.
abbrev pub header : Tree → List ℕ
header (node fields content) = print_header fields

abbrev pub body : Tree → List ℕ
body (node fields content) = print_body (boundary_of fields) content

-- The fields with some names, in any case, or all others, and the empty line.
abbrev pub is_taken : List (List ℕ) → Bool → Field → Bool
is_taken names except field = if except then not (is_among names field.name) else is_among names field.name

abbrev pub some_fields : List (List ℕ) → Bool → Tree → List ℕ
some_fields names except (node fields content) = print_header (filter (is_taken names except) fields)

-- What is asked of a message, whole or within another.
abbrev pub of_message : SectionPart → Tree → Option (List ℕ)
of_message Whole tree = Some (print tree)
of_message Mime tree = None
of_message Header tree = Some (header tree)
of_message (Fields names except) tree = Some (some_fields names except tree)
of_message Text tree = Some (body tree)

-- What is asked of a part. A number alone is its body, and all but this and its own header is asked of the message that it is.
abbrev pub of_part : SectionPart → Tree → Option (List ℕ)
of_part Whole tree = Some (body tree)
of_part Mime tree = Some (header tree)
of_part Header tree = option_and_then (of_message Header) (message_within tree)
of_part (Fields names except) tree = option_and_then (of_message (Fields names except)) (message_within tree)
of_part Text tree = option_and_then (of_message Text) (message_within tree)

abbrev pub at_path : List ℕ → SectionPart → Tree → Option (List ℕ)
at_path [] part tree = of_message part tree
at_path (n ∷ ns) part tree = option_and_then (of_part part) (part_at n ns tree)

-- The text of a section; none where there is no such section.
unfoldable pub section_of : Section → Tree → Option (List ℕ)
section_of section tree = at_path section.path section.part tree
