-- The envelope of a message (RFC 3501 §7.4.2, §9 envelope).
use Rattle.std.specs.Prelude.{ℕ, if◌then◌else◌, List, [], ◌∷◌, ◌++◌, codes, flat_map, Option, Some, None}
use Rattle.mail_text.specs.Case.{is_same}
use Rattle.mime_tree.specs.declared.values.Field.{Field}
use Rattle.mime_tree.specs.declared.values.Item.{Item}
use Rattle.mime_tree.specs.declared.values.Item.TheVariants.{Address, Group, GroupEnd}
use Rattle.mime_tree.specs.declared.values.Value.{Value}
use Rattle.mime_tree.specs.declared.values.Value.TheVariants.{Text, Addresses, Date, Ids}
use Rattle.canon_writer.specs.Printing.{value_text}
use Rattle.imap_writer.specs.Texts.{text_of}
use Rattle.imap_writer.specs.Spaced.{behind_space}

-- What a client reads where there is nothing.
abbrev pub nil : List ℕ
nil = codes "NIL"

-- The value of the first field with a name, in any case.
abbrev pub first_value : List ℕ → List Field → Option Value
first_value name [] = None
first_value name (f ∷ fs) = if is_same f.name name then Some f.value else first_value name fs

-- A value as it is printed, with nothing decoded; NIL where there is none.
abbrev pub value_or_nil : Option Value → List ℕ
value_or_nil None = nil
value_or_nil (Some value) = text_of (value_text value)

-- The first field with a name as a string, or NIL.
unfoldable pub field_text : List ℕ → List Field → List ℕ
field_text name fields = value_or_nil (first_value name fields)

-- The addresses and groups of a value; none where it was not read as such.
abbrev pub items_of : Option Value → List Item
items_of None = []
items_of (Some (Text text)) = []
items_of (Some (Addresses items)) = items
items_of (Some (Date date)) = []
items_of (Some (Ids ids)) = []

-- The addresses and groups of the first field with a name.
unfoldable pub items_in : List ℕ → List Field → List Item
items_in name fields = items_of (first_value name fields)

-- Those who are meant where a field tells of none: the authors.
abbrev pub or_authors : List Item → List Field → List Item
or_authors [] fields = items_in (codes "From") fields
or_authors (item ∷ items) fields = item ∷ items

-- The name of an address; NIL where it has none.
abbrev pub name_or_nil : List ℕ → List ℕ
name_or_nil [] = nil
name_or_nil (c ∷ cs) = text_of (c ∷ cs)

-- An address: its name, no route, and what stands on both sides of its `@`. Where there is no domain, a group begins with its
-- name, or ends.
abbrev pub item_text : Item → List ℕ
item_text (Address name local domain) = codes "(" ++ name_or_nil name ++ codes " NIL " ++ text_of local ++ codes " " ++ text_of domain ++ codes ")"
item_text (Group name) = codes "(NIL NIL " ++ text_of name ++ codes " NIL)"
item_text GroupEnd = codes "(NIL NIL NIL NIL)"

-- Addresses and groups one behind another, or NIL.
unfoldable pub items_text : List Item → List ℕ
items_text [] = nil
items_text (item ∷ items) = codes "(" ++ flat_map item_text (item ∷ items) ++ codes ")"

-- The first five values of an envelope: when and by whom the message was sent, and what about.
unfoldable pub origin_values : List Field → List ℕ
origin_values fields =
    field_text (codes "Date") fields
    ++ behind_space (field_text (codes "Subject") fields)
    ++ behind_space (items_text (items_in (codes "From") fields))
    ++ behind_space (items_text (or_authors (items_in (codes "Sender") fields) fields))
    ++ behind_space (items_text (or_authors (items_in (codes "Reply-To") fields) fields))

-- The last five: to whom, and which message it is.
unfoldable pub destination_values : List Field → List ℕ
destination_values fields =
    items_text (items_in (codes "To") fields)
    ++ behind_space (items_text (items_in (codes "Cc") fields))
    ++ behind_space (items_text (items_in (codes "Bcc") fields))
    ++ behind_space (field_text (codes "In-Reply-To") fields)
    ++ behind_space (field_text (codes "Message-ID") fields)

unfoldable pub envelope : List Field → List ℕ
envelope fields = codes "(" ++ origin_values fields ++ behind_space (destination_values fields) ++ codes ")"
