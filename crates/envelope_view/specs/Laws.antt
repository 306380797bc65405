-- What holds of sections.
use Rattle.std.specs.Prelude.{◌≡◌, ℕ, List, ◌++◌, Some}
use Rattle.mime_tree.specs.Trees.{Tree}
use Rattle.canon_writer.specs.Printing.{print}
use Rattle.imap_grammar.specs.declared.items.Section.{Section}
use Rattle.imap_grammar.specs.declared.items.SectionPart.{SectionPart}
use Rattle.imap_grammar.specs.declared.items.SectionPart.TheVariants.{Whole, Mime, Header, Fields, Text}
use Rattle.envelope_view.specs.Sections.{header, body, section_of}

-- A text stands in another, in one piece.
pub record IsSlice (text whole : List ℕ) : Type 0 where
  pub before : List ℕ
  pub after : List ℕ
  pub whole_is : whole ≡ before ++ (text ++ after)

-- All that is asked for but some of the fields is one piece.
abbrev pub IsOnePiece : SectionPart → Type 0
IsOnePiece Whole = Unit {0}
IsOnePiece Mime = Unit {0}
IsOnePiece Header = Unit {0}
IsOnePiece (Fields names except) = ⊥
IsOnePiece Text = Unit {0}

pub record SectionLaws : Type 0 where
  -- A section is a piece of the message's print.
  pub slice : (section : Section) (tree : Tree) (text : List ℕ) → IsOnePiece section.part → section_of section tree ≡ Some text → IsSlice text (print tree)
  -- The print of a message or a part is its header, and then its body.
  pub two_pieces : (tree : Tree) → print tree ≡ header tree ++ body tree
