-- What FETCH is asked for (RFC 3501 §6.4.5).
use Rattle.std.specs.Prelude.{ℕ, Bool, true, false, ◌&&◌, ◌==◌, not, nat_eq, if◌then◌else◌, List, [], ◌∷◌, ◌++◌, Option, Some, None}
use Rattle.std.specs.List.{list_any}
use Rattle.std.specs.Cmp.Lexicographic.{pointwise}
use Rattle.imap_grammar.specs.declared.items.FetchItem.{FetchItem}
use Rattle.imap_grammar.specs.declared.items.FetchItem.TheVariants.{Body, BodyStructure, Envelope, Flags, InternalDate, Modseq, Rfc822, Rfc822Header, Rfc822Size, Rfc822Text, Uid, Part}
use Rattle.imap_grammar.specs.declared.items.Section.{Section}
use Rattle.imap_grammar.specs.declared.items.SectionPart.{SectionPart}
use Rattle.imap_grammar.specs.declared.items.SectionPart.TheVariants.{Whole, Mime, Header, Fields, Text}

-- ---- which items are one

abbrev pub same_truth : Bool → Bool → Bool
same_truth a b = if a then b else not b

abbrev pub same_bytes : List ℕ → List ℕ → Bool
same_bytes a b = pointwise nat_eq a b

abbrev pub same_names : List (List ℕ) → List (List ℕ) → Bool
same_names a b = pointwise same_bytes a b

abbrev pub same_part : SectionPart → SectionPart → Bool
same_part Whole Whole = true
same_part Mime Mime = true
same_part Header Header = true
same_part (Fields names except) (Fields others but) = same_names names others && same_truth except but
same_part Text Text = true
same_part a b = false

abbrev pub same_section : Section → Section → Bool
same_section a b = same_bytes a.path b.path && same_part a.part b.part

abbrev pub same_bounds : Option (ℕ × ℕ) → Option (ℕ × ℕ) → Bool
same_bounds None None = true
same_bounds (Some a) (Some b) = (a.0 == b.0) && (a.1 == b.1)
same_bounds a b = false

-- Bytes that are peeked at are another item than the same bytes that are read.
abbrev pub same_item : FetchItem → FetchItem → Bool
same_item Body Body = true
same_item BodyStructure BodyStructure = true
same_item Envelope Envelope = true
same_item Flags Flags = true
same_item InternalDate InternalDate = true
same_item Modseq Modseq = true
same_item Rfc822 Rfc822 = true
same_item Rfc822Header Rfc822Header = true
same_item Rfc822Size Rfc822Size = true
same_item Rfc822Text Rfc822Text = true
same_item Uid Uid = true
same_item (Part section peek bounds) (Part other peeked others) = same_section section other && (same_truth peek peeked && same_bounds bounds others)
same_item a b = false

abbrev pub has_item : FetchItem → List FetchItem → Bool
has_item item items = list_any (λ other. same_item other item) items

-- The items that are none of those before them.
abbrev pub first_ones : List FetchItem → List FetchItem → List FetchItem
first_ones before [] = []
first_ones before (item ∷ items) =
    if has_item item before then first_ones (before ++ item ∷ []) items else item ∷ first_ones (before ++ item ∷ []) items

-- Each item once, where it was asked for first.
unfoldable pub distinct_items : List FetchItem → List FetchItem
distinct_items items = first_ones [] items

-- ---- which are told

-- The UID stands first where messages are named by it, unless it was asked for.
abbrev pub uid_first : Bool → List FetchItem → List FetchItem
uid_first by_uid items = if by_uid && not (has_item Uid items) then Uid ∷ [] else []

-- The flags stand last where they changed, unless they were asked for.
abbrev pub flags_last : Bool → List FetchItem → List FetchItem
flags_last changed items = if changed && not (has_item Flags items) then Flags ∷ [] else []

-- The items that are told of a message, whose flags the command changed or not.
unfoldable pub told_items : Bool → List FetchItem → Bool → List FetchItem
told_items by_uid items changed = uid_first by_uid items ++ distinct_items items ++ flags_last changed items

-- ---- what they take

-- whether a message that it is told of is seen thereby
abbrev pub marks_seen : FetchItem → Bool
marks_seen Rfc822 = true
marks_seen Rfc822Text = true
marks_seen (Part section peek bounds) = not peek
marks_seen item = false

abbrev pub is_of_fields : SectionPart → Bool
is_of_fields Header = true
is_of_fields (Fields names except) = true
is_of_fields part = false

-- whether the message's own fields tell all of a section
abbrev pub is_of_header : List ℕ → SectionPart → Bool
is_of_header [] part = is_of_fields part
is_of_header (n ∷ ns) part = false

-- whether an item tells of the message's own header alone
abbrev pub reads_header : FetchItem → Bool
reads_header Envelope = true
reads_header Rfc822Header = true
reads_header (Part section peek bounds) = is_of_header section.path section.part
reads_header item = false

-- whether an item tells of what the message has beside its header
abbrev pub reads_body : FetchItem → Bool
reads_body Body = true
reads_body BodyStructure = true
reads_body Rfc822 = true
reads_body Rfc822Text = true
reads_body (Part section peek bounds) = not (is_of_header section.path section.part)
reads_body item = false
