-- The canonical text of a message: the one text that stands for its tree.
use Rattle.std.specs.Prelude.{ℕ, ◌≤◌, List, [], ◌∷◌, ◌++◌}
use Rattle.mime_tree.specs.declared.values.Field.{Field}
use Rattle.mime_tree.specs.declared.values.Value.{Value}
use Rattle.mime_tree.specs.declared.values.Value.TheVariants.{Text, Addresses, Date, Ids}
use Rattle.mime_tree.specs.declared.trees.Encoding.{Encoding}
use Rattle.mime_tree.specs.declared.trees.Encoding.TheVariants.{Plain, Base64}
use Rattle.mime_tree.specs.Trees.{Tree, Content, Trees}
use Rattle.mime_tree.specs.Trees.Tree.{node}
use Rattle.mime_tree.specs.Trees.Content.{leaf, multi, nested}
use Rattle.mime_tree.specs.Trees.Trees.{none, more}
use Rattle.address_grammar.specs.Words.{spaced}
use Rattle.address_grammar.specs.Printing.{printed}
use Rattle.transfer_codec.specs.Layout.{printed64}
use Rattle.header_reader.specs.Faults.{header_size, longest_header}
use Rattle.mime_reader.specs.Kinds.{boundary_of}
use Rattle.mime_reader.specs.Bodies.{delimiter, closing}
use Rattle.canon_writer.specs.Folding.{field_lines}

-- The text of a value, unfolded: addresses with `, ` between them (RFC 5322 §3.4), a date with all its parts (RFC 5322 §3.3),
-- ids with one space between them (RFC 5322 §3.6.4).
abbrev pub value_text : Value → List ℕ
value_text (Text value) = value
value_text (Addresses items) = printed items
value_text (Date date) = date.text
value_text (Ids ids) = spaced ids

-- The lines of a header.
abbrev pub header_lines : List Field → List (List ℕ)
header_lines [] = []
header_lines (f ∷ fs) = field_lines f.name (value_text f.value) ++ header_lines fs

-- Lines, each with its CRLF.
abbrev pub ended : List (List ℕ) → List ℕ
ended [] = []
ended (l ∷ ls) = l ++ 13 ∷ 10 ∷ ended ls

-- A header with the empty line behind it.
abbrev pub print_header : List Field → List ℕ
print_header fields = ended (header_lines fields) ++ 13 ∷ 10 ∷ []

-- The bytes of a leaf in its encoding (RFC 2045 §6).
abbrev pub print_leaf : Encoding → List ℕ → List ℕ
print_leaf Plain bytes = bytes
print_leaf Base64 bytes = printed64 bytes

abbrev mutual
  -- The canonical text of a message or a part. The boundary of a multipart is the one that its fields name.
  pub print : Tree → List ℕ
  print (node fields content) = print_header fields ++ print_body (boundary_of fields) content

  -- A body, whose parts, if it has some, stand between delimiters with this boundary.
  pub print_body : List ℕ → Content → List ℕ
  print_body boundary (leaf encoding bytes) = print_leaf encoding bytes
  print_body boundary (multi trees) = print_parts boundary trees
  print_body boundary (nested tree) = print tree

  -- Parts, each behind a delimiter and before a CRLF, and the closing delimiter (RFC 2046 §5.1.1).
  pub print_parts : List ℕ → Trees → List ℕ
  print_parts boundary none = closing boundary ++ 13 ∷ 10 ∷ []
  print_parts boundary (more tree trees) = delimiter boundary ++ 13 ∷ 10 ∷ (print tree ++ 13 ∷ 10 ∷ print_parts boundary trees)

abbrev mutual
  -- No header of the print is too long to be read again. Folding can make a header longer than it was.
  pub HeadersFit : Tree → Type 0
  HeadersFit (node fields content) = (header_size (header_lines fields) ≤ longest_header) × HeadersFitIn content

  pub HeadersFitIn : Content → Type 0
  HeadersFitIn (leaf encoding bytes) = Unit {0}
  HeadersFitIn (multi trees) = HeadersFitAll trees
  HeadersFitIn (nested tree) = HeadersFit tree

  pub HeadersFitAll : Trees → Type 0
  HeadersFitAll none = Unit {0}
  HeadersFitAll (more tree trees) = HeadersFit tree × HeadersFitAll trees
