-- The rows of a message, up to the ids of the rows that messages share. The content of a body is what the store has by its id.
use Rattle.std.specs.Prelude.{◌≡◌, ℕ, ◌+◌, ◌≤◌, false, List, [], ◌∷◌, length, Option, Some, None}
use Rattle.std.specs.Option.{option_map}
use Rattle.sha2.specs.Sha256.{sha256}
use Rattle.mime_tree.specs.declared.reasons.Mail.{Mail}
use Rattle.mime_tree.specs.declared.reasons.Reason.{Reason}
use Rattle.mime_tree.specs.declared.reasons.Reason.TheVariants.{ZeroByte, LoneReturn, NoField, LongHeader, NoBoundary, NoDelimiter, TooDeep, TooMany}
use Rattle.mime_tree.specs.declared.values.Field.{Field}
use Rattle.mime_tree.specs.declared.values.Item.{Item}
use Rattle.mime_tree.specs.declared.values.Item.TheVariants.{Address, Group, GroupEnd}
use Rattle.mime_tree.specs.declared.values.SentDate.{SentDate}
use Rattle.mime_tree.specs.declared.values.Value.{Value}
use Rattle.mime_tree.specs.declared.values.Value.TheVariants.{Text, Addresses, Date, Ids}
use Rattle.mime_tree.specs.declared.trees.Encoding.TheVariants.{Plain, Base64}
use Rattle.mime_tree.specs.Trees.{Tree, Content, Trees}
use Rattle.mime_tree.specs.Trees.Tree.{node}
use Rattle.mime_tree.specs.Trees.Content.{leaf, multi, nested}
use Rattle.mime_tree.specs.Trees.Trees.{none, more}
use Rattle.canon_writer.specs.Printing.{print}
use Rattle.ordered_rows.specs.RowKey.{number_key}
use Rattle.ordered_rows.specs.Listed.{row_at}
use Rattle.row_tables.specs.Keys.{part_key, field_key, message_key, body_part_key, part_number_key, field_name_key, address_key, date_field_key, unparsed_message_key}
use Rattle.row_tables.specs.TableRows.{TableRows}
use Rattle.row_tables.specs.References.{fields_at, addresses_at, ids_at}
use Rattle.row_tables.specs.declared.mails.PartNumber.{PartNumber}
use Rattle.row_tables.specs.declared.mails.HeaderField.{HeaderField}
use Rattle.row_tables.specs.declared.mails.UnparsedMessage.{UnparsedMessage}
use Rattle.row_tables.specs.declared.values.AddressField.{AddressField}
use Rattle.row_tables.specs.declared.values.DateField.{DateField}
use Rattle.row_tables.specs.declared.values.MessageId.{MessageId}
use Rattle.row_tables.specs.declared.contents.FieldName.{FieldName}
use Rattle.row_tables.specs.declared.contents.AddressRow.{AddressRow}
use Rattle.row_store.specs.Holding.{Stored}
use Rattle.shredder.specs.Paths.{child_path, paths, is_among}

-- ---- rows that messages share

-- the field name with the id is the text
abbrev pub HasName : List FieldName → ℕ → List ℕ → Type 0
HasName names id text = option_map (λ r. r.name) (row_at field_name_key (number_key id) names) ≡ Some text

-- the texts of an address; those that it lacks are empty
pub record AddressTexts : Type 0 where
  pub name : List ℕ
  pub local : List ℕ
  pub domain : List ℕ

abbrev pub texts_in : AddressRow → AddressTexts
texts_in r = record { name = r.name; local = r.local; domain = r.domain }

-- the address with the id has these texts
abbrev pub HasAddress : List AddressRow → ℕ → AddressTexts → Type 0
HasAddress addresses id texts = option_map texts_in (row_at address_key (number_key id) addresses) ≡ Some texts

-- the body with the id has the bytes
abbrev pub HasContent : Stored → ℕ → List ℕ → Type 0
HasContent s id bytes = s.contents id ≡ Some bytes

-- the body with the id has the bytes and their digest
abbrev pub HasBytes : Stored → ℕ → List ℕ → Type 0
HasBytes s id bytes = HasContent s id bytes × (option_map (λ r. r.digest) (row_at body_part_key (number_key id) s.tables.shared.bodyparts) ≡ Some (sha256 bytes))

-- ---- values

abbrev pub form_of : Value → ℕ
form_of (Text value) = 0
form_of (Addresses items) = 1
form_of (Date date) = 2
form_of (Ids ids) = 3

-- What of a value stands in the field's own row, and what in rows of other tables.
abbrev pub text_of : Value → List ℕ
text_of (Text value) = value
text_of (Addresses items) = []
text_of (Date date) = []
text_of (Ids ids) = []

abbrev pub items_of : Value → List Item
items_of (Text value) = []
items_of (Addresses items) = items
items_of (Date date) = []
items_of (Ids ids) = []

abbrev pub date_of : Value → Option SentDate
date_of (Text value) = None
date_of (Addresses items) = None
date_of (Date date) = Some date
date_of (Ids ids) = None

abbrev pub ids_of : Value → List (List ℕ)
ids_of (Text value) = []
ids_of (Addresses items) = []
ids_of (Date date) = []
ids_of (Ids ids) = ids

abbrev pub kind_of : Item → ℕ
kind_of (Address name local domain) = 0
kind_of (Group name) = 1
kind_of GroupEnd = 2

-- The texts of an item's address. A group has its name alone, and the end of a group has no address.
abbrev pub texts_of : Item → Option AddressTexts
texts_of (Address name local domain) = Some (record { name = name; local = local; domain = domain })
texts_of (Group name) = Some (record { name = name; local = []; domain = [] })
texts_of GroupEnd = None

-- the id is that of the address with these texts, and 0 where there are none
abbrev pub IsAddressId : List AddressRow → Option AddressTexts → ℕ → Type 0
IsAddressId addresses (Some texts) id = HasAddress addresses id texts
IsAddressId addresses None id = id ≡ 0

pub record IsItemRow (addresses : List AddressRow) (place : ℕ) (item : Item) (r : AddressField) : Type 0 where
  pub at : r.item ≡ place
  pub kind : r.kind ≡ kind_of item
  pub address : IsAddressId addresses (texts_of item) r.address

-- A row for each item, in their order; their places are counted from the first one's.
abbrev pub AreItemRows : List AddressRow → ℕ → List Item → List AddressField → Type 0
AreItemRows addresses place [] [] = Unit {0}
AreItemRows addresses place [] (r ∷ rows) = ⊥
AreItemRows addresses place (i ∷ items) [] = ⊥
AreItemRows addresses place (i ∷ items) (r ∷ rows) = IsItemRow addresses place i r × AreItemRows addresses (place + 1) items rows

abbrev pub date_row : ℕ → List ℕ → ℕ → SentDate → DateField
date_row message path place date = record { message = message; path = path; place = place; value = date.text; seconds = date.seconds; day = date.day }

-- a printed date has 31 bytes
abbrev pub IsPrinted : Option SentDate → Type 0
IsPrinted None = Unit {0}
IsPrinted (Some date) = length date.text ≡ 31

-- a row for each id, in their order; their places are counted from the first one's
abbrev pub id_rows : ℕ → List ℕ → ℕ → ℕ → List (List ℕ) → List MessageId
id_rows message path place item [] = []
id_rows message path place item (i ∷ ids) = record { message = message; path = path; place = place; item = item; value = i } ∷ id_rows message path place (item + 1) ids

-- ---- fields

-- The row at a place is the field's, and the rows of values at this place are those of the field's value.
pub record IsFieldRow (t : TableRows) (message : ℕ) (path : List ℕ) (place : ℕ) (field : Field) (r : HeaderField) : Type 0 where
  pub at : r.place ≡ place
  pub name : HasName t.shared.field_names r.name field.name
  pub form : r.form ≡ form_of field.value
  pub text : r.value ≡ text_of field.value
  pub addresses : AreItemRows t.shared.addresses 0 (items_of field.value) (addresses_at message path place t.mails.address_fields)
  pub date : row_at date_field_key (field_key message path place) t.mails.date_fields ≡ option_map (date_row message path place) (date_of field.value)
  pub printed : IsPrinted (date_of field.value)
  pub ids : ids_at message path place t.mails.message_ids ≡ id_rows message path place 0 (ids_of field.value)

-- A row for each field, in their order; their places are counted from the first one's.
abbrev pub AreFieldRows : TableRows → ℕ → List ℕ → ℕ → List Field → List HeaderField → Type 0
AreFieldRows t message path place [] [] = Unit {0}
AreFieldRows t message path place [] (r ∷ rows) = ⊥
AreFieldRows t message path place (f ∷ fields) [] = ⊥
AreFieldRows t message path place (f ∷ fields) (r ∷ rows) = IsFieldRow t message path place f r × AreFieldRows t message path (place + 1) fields rows

-- No row of a value stands at the place.
pub record HasNoValue (t : TableRows) (message : ℕ) (path : List ℕ) (place : ℕ) : Type 0 where
  pub addresses : addresses_at message path place t.mails.address_fields ≡ []
  pub date : row_at date_field_key (field_key message path place) t.mails.date_fields ≡ None
  pub ids : ids_at message path place t.mails.message_ids ≡ []

-- The rows of fields and of their values at the path are exactly those of the fields.
pub record HasFields (t : TableRows) (message : ℕ) (path : List ℕ) (fields : List Field) : Type 0 where
  pub rows : AreFieldRows t message path 0 fields (fields_at message path t.mails.header_fields)
  pub others : (place : ℕ) → length fields ≤ place → HasNoValue t message path place

-- ---- parts

abbrev pub part_at : TableRows → ℕ → List ℕ → Option PartNumber
part_at t message path = row_at part_number_key (part_key message path) t.mails.part_numbers

-- The part at the path is a leaf of a kind with these bytes.
pub record HasLeaf (s : Stored) (message : ℕ) (path : List ℕ) (kind : ℕ) (bytes : List ℕ) : Type 0 where
  pub body : ℕ
  pub part : part_at s.tables message path ≡ Some (record { message = message; path = path; kind = kind; body = body })
  pub bytes_are : HasBytes s body bytes

-- The part at the path has parts of its own, and no body.
abbrev pub HasInner : TableRows → ℕ → List ℕ → ℕ → Type 0
HasInner t message path kind = part_at t message path ≡ Some (record { message = message; path = path; kind = kind; body = 0 })

abbrev mutual
  -- The rows at the path, and at those below it, are those of the tree.
  pub HasNode : Stored → ℕ → List ℕ → Tree → Type 0
  HasNode s message path (node fields content) = HasFields s.tables message path fields × HasBody s message path content

  pub HasBody : Stored → ℕ → List ℕ → Content → Type 0
  HasBody s message path (leaf Plain bytes) = HasLeaf s message path 0 bytes
  HasBody s message path (leaf Base64 bytes) = HasLeaf s message path 1 bytes
  HasBody s message path (multi trees) = HasInner s.tables message path 2 × HasChildren s message path 1 trees
  HasBody s message path (nested tree) = HasInner s.tables message path 3 × HasNode s message (child_path path 0) tree

  -- The parts in the part at the path, from a number on, are those of the trees, and no more.
  pub HasChildren : Stored → ℕ → List ℕ → ℕ → Trees → Type 0
  HasChildren s message path n none = part_at s.tables message (child_path path n) ≡ None
  HasChildren s message path n (more tree trees) = HasNode s message (child_path path n) tree × HasChildren s message path (n + 1) trees

-- No row of the message has the path.
pub record HasNothing (t : TableRows) (message : ℕ) (path : List ℕ) : Type 0 where
  pub part : part_at t message path ≡ None
  pub fields : fields_at message path t.mails.header_fields ≡ []
  pub values : (place : ℕ) → HasNoValue t message path place

-- ---- messages

-- the number of a reason in the table
abbrev pub reason_number : Reason → ℕ
reason_number ZeroByte = 1
reason_number LoneReturn = 2
reason_number NoField = 3
reason_number LongHeader = 4
reason_number NoBoundary = 5
reason_number NoDelimiter = 6
reason_number TooDeep = 7
reason_number TooMany = 8

abbrev pub unparsed_row : ℕ → Reason → UnparsedMessage
unparsed_row message reason = record { message = message; reason = reason_number reason }

-- The rows of the message are exactly those of the mail.
pub record HasRows (s : Stored) (message : ℕ) (mail : Mail) : Type 0 where
  pub size : row_at message_key (number_key message) s.tables.mails.messages ≡ Some (record { id = message; size = length (print mail.message) })
  pub reason : row_at unparsed_message_key (number_key message) s.tables.mails.unparsed_messages ≡ option_map (unparsed_row message) mail.reason
  pub tree_rows : HasNode s message [] mail.message
  pub others : (path : List ℕ) → is_among (paths [] mail.message) path ≡ false → HasNothing s.tables message path
