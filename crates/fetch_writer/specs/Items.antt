-- Items with their values, as FETCH tells them of a message (RFC 3501 §7.4.2).
use Rattle.std.specs.Prelude.{ℕ, true, false, List, ◌++◌, take, drop, map, codes, decimal, Option, Some, None, option_map}
use Rattle.mime_tree.specs.Trees.{Tree}
use Rattle.canon_writer.specs.Printing.{print}
use Rattle.imap_grammar.specs.declared.items.FetchItem.{FetchItem}
use Rattle.imap_grammar.specs.declared.items.FetchItem.TheVariants.{Body, BodyStructure, Envelope, Flags, InternalDate, Modseq, Rfc822, Rfc822Header, Rfc822Size, Rfc822Text, Uid, Part}
use Rattle.imap_writer.specs.Texts.{literal}
use Rattle.imap_writer.specs.Flags.{flag_list_of}
use Rattle.imap_writer.specs.Fetches.{message_line}
use Rattle.envelope_view.specs.Envelope.{nil, envelope}
use Rattle.envelope_view.specs.Structure.{structure, fields_of}
use Rattle.envelope_view.specs.Sections.{header, body, section_of}
use Rattle.fetch_writer.specs.declared.facts.MessageFacts.{MessageFacts}
use Rattle.fetch_writer.specs.Names.{item_name}
use Rattle.fetch_writer.specs.InternalDates.{internal_text}

-- The bytes of a text from a place on, and so many at most. A place behind the text's end leaves none.
abbrev pub within : Option (ℕ × ℕ) → List ℕ → List ℕ
within None text = text
within (Some bounds) text = take bounds.1 (drop bounds.0 text)

-- What there isn't is told as NIL.
abbrev pub literal_or_nil : Option (List ℕ) → List ℕ
literal_or_nil None = nil
literal_or_nil (Some text) = literal text

abbrev pub value_of : MessageFacts → Tree → FetchItem → List ℕ
value_of facts tree Body = structure false false tree
value_of facts tree BodyStructure = structure true false tree
value_of facts tree Envelope = envelope (fields_of tree)
value_of facts tree Flags = flag_list_of facts.flags facts.recent
value_of facts tree InternalDate = codes "\"" ++ internal_text facts.date ++ codes "\""
value_of facts tree Modseq = codes "(" ++ decimal facts.modseq ++ codes ")"
value_of facts tree Rfc822 = literal (print tree)
value_of facts tree Rfc822Header = literal (header tree)
value_of facts tree Rfc822Size = decimal facts.size
value_of facts tree Rfc822Text = literal (body tree)
value_of facts tree Uid = decimal facts.uid
value_of facts tree (Part section peek bounds) = literal_or_nil (option_map (within bounds) (section_of section tree))

-- An item with its value.
unfoldable pub item_text : MessageFacts → Tree → FetchItem → List ℕ
item_text facts tree item = item_name item ++ codes " " ++ value_of facts tree item

-- The line of a message, by its number, with these items.
unfoldable pub items_line : ℕ → MessageFacts → Tree → List FetchItem → List ℕ
items_line number facts tree items = message_line number (map (item_text facts tree) items)
