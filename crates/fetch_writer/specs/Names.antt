-- The names that items have in answers of FETCH (RFC 3501 §7.4.2).
use Rattle.std.specs.Prelude.{ℕ, Bool, true, false, ◌&&◌, ◌||◌, ◌==◌, nat_lt, if◌then◌else◌, List, [], ◌∷◌, ◌++◌, length, map, flat_map, codes, decimal, Option, Some, None}
use Rattle.std.specs.List.{list_all}
use Rattle.std.specs.Str.{byte}
use Rattle.imap_grammar.specs.Classes.{is_atom_byte}
use Rattle.imap_grammar.specs.declared.items.FetchItem.{FetchItem}
use Rattle.imap_grammar.specs.declared.items.FetchItem.TheVariants.{Body, BodyStructure, Envelope, Flags, InternalDate, Modseq, Rfc822, Rfc822Header, Rfc822Size, Rfc822Text, Uid, Part}
use Rattle.imap_grammar.specs.declared.items.SectionPart.{SectionPart}
use Rattle.imap_grammar.specs.declared.items.SectionPart.TheVariants.{Whole, Mime, Header, Fields, Text}
use Rattle.imap_writer.specs.Texts.{text_of}
use Rattle.imap_writer.specs.Spaced.{spaced}

-- A byte that a field's name may have where it stands bare.
abbrev pub is_bare_byte : ℕ → Bool
is_bare_byte c = is_atom_byte c || c == byte "]"

-- The name of a field, as it was given: an atom bare, any other as a string.
unfoldable pub field_name : List ℕ → List ℕ
field_name name = if nat_lt 0 (length name) && list_all is_bare_byte name then name else text_of name

-- Some of the fields, or all others.
abbrev pub fields_word : Bool → List ℕ
fields_word except = if except then codes "HEADER.FIELDS.NOT (" else codes "HEADER.FIELDS ("

-- What is asked of the message or the part.
abbrev pub part_name : SectionPart → List ℕ
part_name Whole = []
part_name Mime = codes "MIME"
part_name Header = codes "HEADER"
part_name (Fields names except) = fields_word except ++ spaced (map field_name names) ++ codes ")"
part_name Text = codes "TEXT"

abbrev pub is_whole : SectionPart → Bool
is_whole Whole = true
is_whole part = false

-- The same behind the numbers of a part: they stand alone, or with a dot between.
abbrev pub part_behind : SectionPart → List ℕ
part_behind part = if is_whole part then [] else codes "." ++ part_name part

abbrev pub number_behind : ℕ → List ℕ
number_behind n = codes "." ++ decimal n

-- The numbers of a part with dots between, and what is asked of it.
abbrev pub section_name : List ℕ → SectionPart → List ℕ
section_name [] part = part_name part
section_name (n ∷ ns) part = decimal n ++ flat_map number_behind ns ++ part_behind part

-- Where the bytes start, if not all were asked for. How many were asked for isn't told.
abbrev pub start_text : Option (ℕ × ℕ) → List ℕ
start_text None = []
start_text (Some bounds) = codes "<" ++ decimal bounds.0 ++ codes ">"

-- A peek is told by the same name.
unfoldable pub item_name : FetchItem → List ℕ
item_name Body = codes "BODY"
item_name BodyStructure = codes "BODYSTRUCTURE"
item_name Envelope = codes "ENVELOPE"
item_name Flags = codes "FLAGS"
item_name InternalDate = codes "INTERNALDATE"
item_name Modseq = codes "MODSEQ"
item_name Rfc822 = codes "RFC822"
item_name Rfc822Header = codes "RFC822.HEADER"
item_name Rfc822Size = codes "RFC822.SIZE"
item_name Rfc822Text = codes "RFC822.TEXT"
item_name Uid = codes "UID"
item_name (Part section peek bounds) = codes "BODY[" ++ section_name section.path section.part ++ codes "]" ++ start_text bounds
