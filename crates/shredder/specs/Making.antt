-- What private functions make: the rows of fields, once the ids of what messages share are chosen, and what is known between two
-- changes of a list that adds a message.
use Rattle.std.specs.Prelude.{◌≡◌, ◌≢◌, ◌⊎◌, ℕ, ◌+◌, ◌^◌, ◌<◌, ◌≤◌, true, false, nat_lt, List, [], ◌∷◌, ◌++◌, map, Option, Some, None}
use Rattle.std.specs.Option.{option_map}
use Rattle.std.specs.Ordering.{is_lt}
use Rattle.std.specs.List.{AllByRecursion, Contains}
use Rattle.sha2.specs.Sha256.{sha256}
use Rattle.mime_tree.specs.declared.reasons.Reason.{Reason}
use Rattle.mime_tree.specs.declared.values.Field.{Field}
use Rattle.mime_tree.specs.declared.values.Item.{Item}
use Rattle.mime_tree.specs.declared.values.SentDate.{SentDate}
use Rattle.mime_tree.specs.declared.trees.Encoding.TheVariants.{Plain, Base64}
use Rattle.mime_tree.specs.Trees.{Tree, Content}
use Rattle.mime_tree.specs.Trees.Content.{leaf, multi, nested}
use Rattle.ordered_rows.specs.RowKey.{RowKey, key_cmp, same_key, number_key}
use Rattle.ordered_rows.specs.Listed.{row_at}
use Rattle.ordered_rows.specs.InsertLaws.{InsertLaws}
use Rattle.row_tables.specs.Keys.{field_key, message_key, body_part_key, part_number_key, field_name_key, header_field_key, address_key, address_field_key, date_field_key, message_id_key, unparsed_message_key}
use Rattle.row_tables.specs.TableRows.{TableRows}
use Rattle.row_tables.specs.References.{AreOrdered, AreClosed, HasMessage, fields_at, addresses_at, ids_at}
use Rattle.row_tables.specs.Fits.{Fits, applied}
use Rattle.row_tables.specs.declared.mails.HeaderField.{HeaderField}
use Rattle.row_tables.specs.declared.values.AddressField.{AddressField}
use Rattle.row_tables.specs.declared.values.DateField.{DateField}
use Rattle.row_tables.specs.declared.contents.BodyPart.{BodyPart}
use Rattle.row_tables.specs.declared.contents.AddressRow.{AddressRow}
use Rattle.row_tables.specs.declared.change.RowChange.{RowChange}
use Rattle.row_tables.specs.declared.change.RowChange.TheVariants.{InsertMessageRow, InsertBodyPart, InsertPartNumber, InsertFieldName, InsertHeaderField, InsertAddressRow, InsertAddressField, InsertDateField, InsertMessageId, InsertUnparsedMessage}
use Rattle.row_store.specs.Kept.{Store}
use Rattle.row_store.specs.Holding.{stored_by, in_row}
use Rattle.shredder.specs.Paths.{child_path, is_among}
use Rattle.shredder.specs.MessageRows.{IsAddressId, HasLeaf, HasInner, HasNode, HasChildren, IsFieldRow, form_of, text_of, items_of, date_of, ids_of, kind_of, texts_of, date_row, id_rows, part_at, unparsed_row}

-- ---- rows of a field

abbrev pub field_row : ℕ → List ℕ → ℕ → Field → ℕ → HeaderField
field_row message path place field name = record { message = message; path = path; place = place; name = name; form = form_of field.value; value = text_of field.value }

-- one row for each item, whose address has the id beside it
abbrev pub item_rows : ℕ → List ℕ → ℕ → ℕ → List Item → List ℕ → List AddressField
item_rows message path place item [] ids = []
item_rows message path place item (i ∷ items) [] = []
item_rows message path place item (i ∷ items) (id ∷ ids) =
    record { message = message; path = path; place = place; item = item; kind = kind_of i; address = id } ∷ item_rows message path place (item + 1) items ids

abbrev pub date_rows : ℕ → List ℕ → ℕ → Option SentDate → List DateField
date_rows message path place None = []
date_rows message path place (Some date) = date_row message path place date ∷ []

abbrev pub value_changes : ℕ → List ℕ → ℕ → Field → List ℕ → List RowChange
value_changes message path place field ids =
    map InsertAddressField (item_rows message path place 0 (items_of field.value) ids) ++ (map InsertDateField (date_rows message path place (date_of field.value)) ++ map InsertMessageId (id_rows message path place 0 (ids_of field.value)))

-- the ids are those of the items' addresses
abbrev pub AreAddressIds : List AddressRow → List Item → List ℕ → Type 0
AreAddressIds addresses [] [] = Unit {0}
AreAddressIds addresses [] (id ∷ ids) = ⊥
AreAddressIds addresses (i ∷ items) [] = ⊥
AreAddressIds addresses (i ∷ items) (id ∷ ids) = IsAddressId addresses (texts_of i) id × AreAddressIds addresses items ids

-- ---- rows that messages share

-- the row with the id has the bytes and their digest
abbrev pub RowHasBytes : List BodyPart → ℕ → List ℕ → Type 0
RowHasBytes rows id bytes = (option_map in_row (row_at body_part_key (number_key id) rows) ≡ Some bytes) × (option_map (λ r. r.digest) (row_at body_part_key (number_key id) rows) ≡ Some (sha256 bytes))

-- no row has the bytes and their digest
abbrev pub LacksBytes : List BodyPart → List ℕ → Type 0
LacksBytes rows bytes = (id : ℕ) → RowHasBytes rows id bytes → ⊥

-- The rows of two tables whose ids differ are together those of a third.
pub record IsUnion {X : Type 0} (key : X → RowKey) (rows added all : List X) : Type 0 where
  pub first : (id : ℕ) (r : X) → row_at key (number_key id) rows ≡ Some r → row_at key (number_key id) all ≡ Some r
  pub second : (id : ℕ) (r : X) → row_at key (number_key id) added ≡ Some r → row_at key (number_key id) all ≡ Some r
  pub neither : (id : ℕ) → row_at key (number_key id) rows ≡ None → row_at key (number_key id) added ≡ None → row_at key (number_key id) all ≡ None

-- the rows that a message adds, among them the bodies that were placed for it
abbrev pub holding : TableRows → List BodyPart → TableRows
holding added bodies = record added { shared = record added.shared { bodyparts = bodies } }

-- each of the bodies is found by its id
abbrev pub HaveIds : List BodyPart → Type 0
HaveIds bodies = (body : BodyPart) → Contains bodies body → row_at body_part_key (number_key body.id) bodies ≡ Some body

-- The store can be asked to place bodies.
pub record IsReady {D : Type 0} (store : Store D) : Type 0 where
  pub usable : store.spent ≡ false
  pub placed : HaveIds store.placed

-- The store's files and tables are as before.
pub record IsSameStore {D : Type 0} (old new : Store D) : Type 0 where
  pub files : new.files ≡ old.files
  pub tables : new.tables ≡ old.tables

-- ---- changes

-- The change is a row of the message, or one that messages share; a body is new.
abbrev pub Suits : ℕ → TableRows → RowChange → Type 0
Suits message t (InsertMessageRow r) = r.id ≡ message
Suits message t (InsertBodyPart r) = (r.digest ≡ sha256 r.content) × LacksBytes t.shared.bodyparts r.content
Suits message t (InsertPartNumber r) = r.message ≡ message
Suits message t (InsertFieldName r) = Unit {0}
Suits message t (InsertHeaderField r) = r.message ≡ message
Suits message t (InsertAddressRow r) = Unit {0}
Suits message t (InsertAddressField r) = r.message ≡ message
Suits message t (InsertDateField r) = r.message ≡ message
Suits message t (InsertMessageId r) = r.message ≡ message
Suits message t (InsertUnparsedMessage r) = r.message ≡ message
Suits message t change = ⊥

-- The changes fit one after another, suit the message, and make these tables.
abbrev pub Makes : ℕ → TableRows → List RowChange → TableRows → Type 0
Makes message t [] after = t ≡ after
Makes message t (change ∷ changes) after = Fits t change × Suits message t change × Makes message (applied t change) changes after

-- The row has one of these paths, or is shared.
abbrev pub IsAt : (List ℕ → Type 0) → RowChange → Type 0
IsAt P (InsertMessageRow r) = ⊥
IsAt P (InsertBodyPart r) = Unit {0}
IsAt P (InsertPartNumber r) = P r.path
IsAt P (InsertFieldName r) = Unit {0}
IsAt P (InsertHeaderField r) = P r.path
IsAt P (InsertAddressRow r) = Unit {0}
IsAt P (InsertAddressField r) = P r.path
IsAt P (InsertDateField r) = P r.path
IsAt P (InsertMessageId r) = P r.path
IsAt P (InsertUnparsedMessage r) = ⊥
IsAt P change = ⊥

abbrev pub Nowhere : List ℕ → Type 0
Nowhere path = ⊥

abbrev pub Here : List ℕ → List ℕ → Type 0
Here path other = other ≡ path

-- What is known between two changes: of the tables with the changes so far, the tables before them, and the shared rows among them.
pub record Between (message : ℕ) (t added now : TableRows) : Type 0 where
  pub ordered : AreOrdered now
  pub closed : AreClosed now
  pub there : HasMessage now message
  pub names : IsUnion field_name_key t.shared.field_names added.shared.field_names now.shared.field_names
  pub addresses : IsUnion address_key t.shared.addresses added.shared.addresses now.shared.addresses
  pub bodies : IsUnion body_part_key t.shared.bodyparts added.shared.bodyparts now.shared.bodyparts

-- The changes grew by some that have these paths alone, and after which something holds.
pub record Leads (message : ℕ) (t now added : TableRows) (changes : List RowChange) (Where : List ℕ → Type 0) (Holds : TableRows → Type 0) (added_after : TableRows) (changes_after : List RowChange) : Type 0 where
  pub after : TableRows
  pub more : List RowChange
  pub grown : changes_after ≡ changes ++ more
  pub made : Makes message now more after
  pub within : AllByRecursion (IsAt Where) more
  pub between : Between message t added_after after
  pub holds : Holds after

-- ---- fields and parts

-- all fields at the path stand before the place
abbrev pub AreBefore : ℕ → List HeaderField → Type 0
AreBefore place rows = AllByRecursion (λ r. r.place < place) rows

-- the same values at a place
pub record SameValues (message : ℕ) (path : List ℕ) (place : ℕ) (t after : TableRows) : Type 0 where
  pub addresses : addresses_at message path place after.mails.address_fields ≡ addresses_at message path place t.mails.address_fields
  pub date : row_at date_field_key (field_key message path place) after.mails.date_fields ≡ row_at date_field_key (field_key message path place) t.mails.date_fields
  pub ids : ids_at message path place after.mails.message_ids ≡ ids_at message path place t.mails.message_ids

-- The field was added behind those that were there, and no value at another place has changed.
pub record IsAdded (message : ℕ) (path : List ℕ) (place : ℕ) (field : Field) (t after : TableRows) : Type 0 where
  pub row : HeaderField
  pub last : fields_at message path after.mails.header_fields ≡ fields_at message path t.mails.header_fields ++ row ∷ []
  pub is : IsFieldRow after message path place field row
  pub others : (other : ℕ) → other ≢ place → SameValues message path other t after

-- the part at the path, without those within
abbrev pub HasPartOf : TableRows → ℕ → List ℕ → Content → Type 0
HasPartOf t message path (leaf Plain bytes) = HasLeaf (stored_by in_row t) message path 0 bytes
HasPartOf t message path (leaf Base64 bytes) = HasLeaf (stored_by in_row t) message path 1 bytes
HasPartOf t message path (multi trees) = HasInner t message path 2
HasPartOf t message path (nested tree) = HasInner t message path 3

-- the part at the path, with no fields yet
abbrev pub HasBarePart : ℕ → List ℕ → Content → TableRows → Type 0
HasBarePart message path content t = HasPartOf t message path content × (fields_at message path t.mails.header_fields ≡ [])

-- the parts from a number on are those of the trees
abbrev pub HasEach : TableRows → ℕ → List ℕ → ℕ → List Tree → Type 0
HasEach t message path n [] = Unit {0}
HasEach t message path n (tree ∷ trees) = HasNode (stored_by in_row t) message (child_path path n) tree × HasEach t message path (n + 1) trees

-- what stands within the part at the path
abbrev pub HasInside : ℕ → List ℕ → Content → TableRows → Type 0
HasInside message path (leaf encoding bytes) t = Unit {0}
HasInside message path (multi trees) t = HasChildren (stored_by in_row t) message path 1 trees
HasInside message path (nested tree) t = HasNode (stored_by in_row t) message (child_path path 0) tree

-- nothing, or a text that begins with a dot
abbrev pub IsEnd : List ℕ → Type 0
IsEnd [] = Unit {0}
IsEnd (c ∷ cs) = c ≡ 46

-- the path, or one that goes on behind it
abbrev pub IsUnder : List ℕ → List ℕ → Type 0
IsUnder path other = (rest : List ℕ) × (other ≡ path ++ rest) × ((path ≡ []) ⊎ IsEnd rest)

-- no part is at the path or under it
abbrev pub IsOpen : TableRows → ℕ → List ℕ → Type 0
IsOpen t message path = (other : List ℕ) → IsUnder path other → part_at t message other ≡ None

-- no part is at the parts of the path from a number on, or under them
abbrev pub IsOpenFrom : TableRows → ℕ → List ℕ → ℕ → Type 0
IsOpenFrom t message path n = (m : ℕ) → n ≤ m → m < 2 ^ 64 → IsOpen t message (child_path path m)

-- the path is one of these
abbrev pub Among : List (List ℕ) → List ℕ → Type 0
Among paths path = is_among paths path ≡ true

-- the row of a reason
abbrev pub reason_changes : ℕ → Option Reason → List RowChange
reason_changes message None = []
reason_changes message (Some reason) = InsertUnparsedMessage (unparsed_row message reason) ∷ []

-- ---- laws of all tables, in one record

pub record RowLaws : Type 0 where
  pub same : (a b : RowKey) → same_key a b ≡ true → a ≡ b
  pub places : (k : RowKey) (a b : ℕ) → is_lt (key_cmp (record k { place = a }) (record k { place = b })) ≡ nat_lt a b
  pub messages : InsertLaws message_key
  pub part_numbers : InsertLaws part_number_key
  pub header_fields : InsertLaws header_field_key
  pub address_fields : InsertLaws address_field_key
  pub date_fields : InsertLaws date_field_key
  pub message_ids : InsertLaws message_id_key
  pub unparsed_messages : InsertLaws unparsed_message_key
  pub bodyparts : InsertLaws body_part_key
  pub field_names : InsertLaws field_name_key
  pub addresses : InsertLaws address_key
  pub order : (t : TableRows) (change : RowChange) → AreOrdered t → Fits t change → AreOrdered (applied t change)
  pub closed : (t : TableRows) (change : RowChange) → AreClosed t → Fits t change → AreClosed (applied t change)
