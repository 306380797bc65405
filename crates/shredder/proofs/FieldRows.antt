-- The rows of one field.
use Rattle.std.proofs.Common.{◌≡◌, ℕ, ◌+◌, ◌<◌, Bool, true, ◌&&◌, ◌==◌, nat_eq, List, [], ◌∷◌, ◌++◌, map, Option, Some, None, IsSome, is_some, refl, sym, ap, ◌∙◌, subst, arith}
use mathlib.Core.Bool.{true≢false}
use borrow.Author.Tests.{eqb-true}
use Rattle.std.proofs.lemmas.Bool.{and_parts, and_from, eq-eqb, lt-ltb}
use Rattle.std.specs.Ordering.{is_lt}
use Rattle.std.specs.Option.{option_map}
use Rattle.std.specs.List.{AllByRecursion, filter}
use Rattle.std.specs.Cmp.Lexicographic.{pointwise, bytes_decides}
use Rattle.mime_tree.specs.declared.values.Field.{Field}
use Rattle.mime_tree.specs.declared.values.Item.{Item}
use Rattle.mime_tree.specs.declared.values.Item.TheVariants.{Address, Group, GroupEnd}
use Rattle.mime_tree.specs.declared.values.SentDate.{SentDate}
use Rattle.ordered_rows.specs.RowKey.{RowKey, key_cmp, number_key}
use Rattle.ordered_rows.specs.Listed.{has_key, is_below, row_at, with_row}
use Rattle.row_tables.specs.Keys.{field_key, item_key, field_name_key, header_field_key, address_field_key, date_field_key, message_id_key}
use Rattle.row_tables.specs.TableRows.{TableRows}
use Rattle.row_tables.specs.References.{AreOrdered, AreClosed, HasMessage, HasPart, HasField, HasFieldName, AddressRefers, DateRefers, IdRefers, fields_at}
use Rattle.row_tables.specs.References.{HasAddress as HasAddressRow}
use Rattle.row_tables.specs.Fits.{IsText, applied}
use Rattle.row_tables.specs.declared.mails.HeaderField.{HeaderField}
use Rattle.row_tables.specs.declared.values.AddressField.{AddressField}
use Rattle.row_tables.specs.declared.values.DateField.{DateField}
use Rattle.row_tables.specs.declared.values.MessageId.{MessageId}
use Rattle.row_tables.specs.declared.contents.FieldName.{FieldName}
use Rattle.row_tables.specs.declared.contents.AddressRow.{AddressRow}
use Rattle.row_tables.specs.declared.change.RowChange.{RowChange}
use Rattle.row_tables.specs.declared.change.RowChange.TheVariants.{InsertHeaderField, InsertAddressField, InsertDateField, InsertMessageId}
use Rattle.shredder.specs.MessageRows.{texts_in, HasName, IsAddressId, AreItemRows, IsPrinted, IsFieldRow, HasNoValue, text_of, items_of, date_of, ids_of, kind_of, texts_of, date_row, id_rows}
use Rattle.shredder.specs.Making.{RowLaws, Makes, IsAt, Here, IsAdded, AreBefore, AreAddressIds, field_row, item_rows, date_rows, value_changes}
use Rattle.shredder.proofs.Lookups.{mapped_some}
use Rattle.shredder.proofs.Frames.{MissesPlace, values_along, all_joined, makes_then, is_field_at, fields_by_test}
use Rattle.shredder.proofs.Groups.{none_pass, none_found, all_passing, items_lt, with_rows, AreBelow, is_free, behind_group, AreNumbered, IsOpenFrom, next_free, next_open, all_behind}

-- ---- a place without a field has no values

pub there : {X : Type 0} (o : Option X) → o ≡ None → IsSome o → ⊥
there o e h = true≢false (sym h ∙ ap is_some e)

place_is : (text path : List ℕ) (at place number message : ℕ) → (pointwise nat_eq text path && (at == place) && (number == message)) ≡ true → field_key number text at ≡ field_key message path place
place_is text path at place number message e =
    let outer = and_parts (pointwise nat_eq text path && (at == place)) (number == message) e in
    let inner = and_parts (pointwise nat_eq text path) (at == place) outer.0 in
    ap (λ n. field_key n text at) (eqb-true number message outer.1) ∙ ap (λ p. field_key message p at) ((bytes_decides text path).0 inner.0) ∙ ap (λ p. field_key message path p) (eqb-true at place inner.1)

pub no_values : (laws : RowLaws) (t : TableRows) (message : ℕ) (path : List ℕ) (place : ℕ) → AreClosed t → row_at header_field_key (field_key message path place) t.mails.header_fields ≡ None → HasNoValue t message path place
no_values laws t message path place closed none = record {
  addresses = none_pass (AddressRefers t) _ (λ x h e. nowhere (field_key x.message x.path x.place) (place_is x.path path x.place place x.message message e) h.1) t.mails.address_fields closed.address_fields;
  date = none_found (DateRefers t) _ (λ x h e. nowhere (field_key x.message x.path x.place) (laws.same (date_field_key x) (field_key message path place) e) h.1) t.mails.date_fields closed.date_fields;
  ids = none_pass (IdRefers t) _ (λ x h e. nowhere (field_key x.message x.path x.place) (place_is x.path path x.place place x.message message e) h.1) t.mails.message_ids closed.message_ids;
}
  where
    nowhere : (k : RowKey) → k ≡ field_key message path place → IsSome (row_at header_field_key k t.mails.header_fields) → ⊥
    nowhere k e h = there (row_at header_field_key (field_key message path place) t.mails.header_fields) none (subst (λ x. IsSome (row_at header_field_key x t.mails.header_fields)) e h)

-- ---- a place behind all fields is free

pub field_is : (message : ℕ) (path : List ℕ) (r : HeaderField) → is_field_at message path r ≡ true → header_field_key r ≡ field_key message path r.place
field_is message path r e = let both = and_parts (r.message == message) (pointwise nat_eq r.path path) e in ap (λ n. field_key n r.path r.place) (eqb-true r.message message both.0) ∙ ap (λ p. field_key message p r.place) ((bytes_decides r.path path).0 both.1)

fields_below : (laws : RowLaws) (message : ℕ) (path : List ℕ) (place : ℕ) (rows : List HeaderField) → AreBefore place (fields_at message path rows)
    → AllByRecursion (λ r. is_below header_field_key (field_key message path place) r ≡ true) (filter (is_field_at message path) rows)
fields_below laws message path place rows before =
    all_passing (λ r. r.place < place) (λ r. is_below header_field_key (field_key message path place) r ≡ true) (is_field_at message path)
    (λ r e lt. ap (λ k. is_lt (key_cmp k (field_key message path place))) (field_is message path r e) ∙ laws.places (field_key message path 0) r.place place ∙ lt-ltb r.place place lt) rows
    (subst (AreBefore place) (fields_by_test message path rows) before)

has_field_key : (laws : RowLaws) (message : ℕ) (path : List ℕ) (place : ℕ) (r : HeaderField) → has_key header_field_key (field_key message path place) r ≡ true → is_field_at message path r ≡ true
has_field_key laws message path place r e =
    let k = laws.same (header_field_key r) (field_key message path place) e in
    and_from (r.message == message) (pointwise nat_eq r.path path) (eq-eqb r.message message (ap (λ (x : RowKey). x.number) k)) ((bytes_decides r.path path).1 (ap (λ (x : RowKey). x.text) k))

pub field_free : (laws : RowLaws) (message : ℕ) (path : List ℕ) (place : ℕ) (rows : List HeaderField) → AreBefore place (fields_at message path rows) → row_at header_field_key (field_key message path place) rows ≡ None
field_free laws message path place rows before =
    is_free header_field_key laws laws.header_fields (is_field_at message path) (field_key message path place) rows (has_field_key laws message path place) (fields_below laws message path place rows before)

field_behind : (laws : RowLaws) (message : ℕ) (path : List ℕ) (row : HeaderField) (rows : List HeaderField) → row.message ≡ message → row.path ≡ path → AreBefore row.place (fields_at message path rows)
    → fields_at message path (with_row header_field_key row rows) ≡ fields_at message path rows ++ row ∷ []
field_behind laws message path row rows m p before =
    let key : header_field_key row ≡ field_key message path row.place = ap (λ n. field_key n row.path row.place) m ∙ ap (λ q. field_key message q row.place) p in
    fields_by_test message path (with_row header_field_key row rows)
    ∙ behind_group header_field_key laws laws.header_fields (is_field_at message path) row rows (and_from (row.message == message) (pointwise nat_eq row.path path) (eq-eqb row.message message m) ((bytes_decides row.path path).1 p))
    (subst (λ k. AllByRecursion (λ r. is_below header_field_key k r ≡ true) (filter (is_field_at message path) rows)) (sym key) (fields_below laws message path row.place rows before))
    ∙ ap (λ l. l ++ row ∷ []) (sym (fields_by_test message path rows))

-- ---- values in their tables

some_there : {X Y : Type 0} (f : X → Y) (o : Option X) (y : Y) → option_map f o ≡ Some y → IsSome o
some_there f o y e = let it = mapped_some f o y e in ap is_some it.1

module _ (laws : RowLaws) (message : ℕ) (path : List ℕ) (place : ℕ) where
  abbrev at_place : (message' : ℕ) (path' : List ℕ) (place' : ℕ) → Bool
  at_place m p f = pointwise nat_eq p path && (f == place) && (m == message)

  at_itself : at_place message path place ≡ true
  at_itself = and_from (pointwise nat_eq path path && (place == place)) (message == message) (and_from (pointwise nat_eq path path) (place == place) ((bytes_decides path path).1 refl) (eq-eqb place place refl)) (eq-eqb message message refl)

  of_key : (m : ℕ) (p : List ℕ) (f i n : ℕ) → item_key m p f i ≡ item_key message path place n → at_place m p f ≡ true
  of_key m p f i n e =
      and_from (pointwise nat_eq p path && (f == place)) (m == message) (and_from (pointwise nat_eq p path) (f == place) ((bytes_decides p path).1 (ap (λ (k : RowKey). k.text) e)) (eq-eqb f place (ap (λ (k : RowKey). k.place) e)))
      (eq-eqb m message (ap (λ (k : RowKey). k.number) e))

  abbrev nth : ℕ → RowKey
  nth n = item_key message path place n

  up : (m n : ℕ) → m < n → is_lt (key_cmp (nth m) (nth n)) ≡ true
  up m n lt = items_lt (item_key message path place 0) m n ∙ lt-ltb m n lt

  -- addresses

  abbrev with_addresses : TableRows → List AddressField → TableRows
  with_addresses t rows = record t { mails = record t.mails { address_fields = with_rows address_field_key rows t.mails.address_fields } }

  abbrev an_address : AddressField → Bool
  an_address r = at_place r.message r.path r.place

  an_address_key : (n : ℕ) (r : AddressField) → has_key address_field_key (nth n) r ≡ true → an_address r ≡ true
  an_address_key n r e = of_key r.message r.path r.place r.item n (laws.same (address_field_key r) (nth n) e)

  items_numbered : (n : ℕ) (items : List Item) (ids : List ℕ) → AreNumbered address_field_key laws laws.address_fields an_address nth an_address_key up n (item_rows message path place n items ids)
  items_numbered n [] ids = tt
  items_numbered n (i ∷ items) [] = tt
  items_numbered n (i ∷ items) (id ∷ ids) = (refl, at_itself, items_numbered (n + 1) items ids)

  has_address_row : (t : TableRows) (i : Item) (id : ℕ) → IsAddressId t.shared.addresses (texts_of i) id → kind_of i < 2 → HasAddressRow t id
  has_address_row t (Address name local domain) id h lt = some_there texts_in _ _ h
  has_address_row t (Group name) id h lt = some_there texts_in _ _ h
  has_address_row t GroupEnd id h lt = absurd (omega (arith, lt))

  items_made : (t : TableRows) (n : ℕ) (items : List Item) (ids : List ℕ) → IsText path → HasMessage t message → HasField t message path place → AreAddressIds t.shared.addresses items ids
      → IsOpenFrom address_field_key laws laws.address_fields an_address nth an_address_key up n t.mails.address_fields
      → Makes message t (map InsertAddressField (item_rows message path place n items ids)) (with_addresses t (item_rows message path place n items ids))
  items_made t n [] ids text m f h open_n = refl
  items_made t n (i ∷ items) [] text m f h open_n = absurd h
  items_made t n (i ∷ items) (id ∷ ids) text m f h open_n =
      let row : AddressField = record { message = message; path = path; place = place; item = n; kind = kind_of i; address = id } in (
        (text, next_free address_field_key laws laws.address_fields an_address nth an_address_key up n row t.mails.address_fields refl open_n, (m, f, has_address_row t i id h.0)),
        refl,
        items_made (applied t (InsertAddressField row)) (n + 1) items ids text m f h.1 (next_open address_field_key laws laws.address_fields an_address nth an_address_key up n row t.mails.address_fields refl at_itself open_n),
      )

  are_item_rows : (addresses : List AddressRow) (n : ℕ) (items : List Item) (ids : List ℕ) → AreAddressIds addresses items ids → AreItemRows addresses n items (item_rows message path place n items ids)
  are_item_rows addresses n [] [] h = tt
  are_item_rows addresses n [] (id ∷ ids) h = absurd h
  are_item_rows addresses n (i ∷ items) [] h = absurd h
  are_item_rows addresses n (i ∷ items) (id ∷ ids) h = (record { at = refl; kind = refl; address = h.0 }, are_item_rows addresses (n + 1) items ids h.1)

  -- ids

  abbrev with_ids : TableRows → List MessageId → TableRows
  with_ids t rows = record t { mails = record t.mails { message_ids = with_rows message_id_key rows t.mails.message_ids } }

  abbrev an_id : MessageId → Bool
  an_id r = at_place r.message r.path r.place

  an_id_key : (n : ℕ) (r : MessageId) → has_key message_id_key (nth n) r ≡ true → an_id r ≡ true
  an_id_key n r e = of_key r.message r.path r.place r.item n (laws.same (message_id_key r) (nth n) e)

  ids_numbered : (n : ℕ) (ids : List (List ℕ)) → AreNumbered message_id_key laws laws.message_ids an_id nth an_id_key up n (id_rows message path place n ids)
  ids_numbered n [] = tt
  ids_numbered n (i ∷ ids) = (refl, at_itself, ids_numbered (n + 1) ids)

  ids_made : (t : TableRows) (n : ℕ) (ids : List (List ℕ)) → IsText path → HasMessage t message → HasField t message path place → AllByRecursion IsText ids
      → IsOpenFrom message_id_key laws laws.message_ids an_id nth an_id_key up n t.mails.message_ids
      → Makes message t (map InsertMessageId (id_rows message path place n ids)) (with_ids t (id_rows message path place n ids))
  ids_made t n [] text m f h open_n = refl
  ids_made t n (i ∷ ids) text m f h open_n =
      let row : MessageId = record { message = message; path = path; place = place; item = n; value = i } in (
        (text, h.0, next_free message_id_key laws laws.message_ids an_id nth an_id_key up n row t.mails.message_ids refl open_n, (m, f)),
        refl,
        ids_made (applied t (InsertMessageId row)) (n + 1) ids text m f h.1 (next_open message_id_key laws laws.message_ids an_id nth an_id_key up n row t.mails.message_ids refl at_itself open_n),
      )

  -- dates

  abbrev with_dates : TableRows → List DateField → TableRows
  with_dates t rows = record t { mails = record t.mails { date_fields = with_rows date_field_key rows t.mails.date_fields } }

  dates_made : (t : TableRows) (date : Option SentDate) → IsText path → HasMessage t message → HasField t message path place → IsPrinted date → row_at date_field_key (field_key message path place) t.mails.date_fields ≡ None
      → Makes message t (map InsertDateField (date_rows message path place date)) (with_dates t (date_rows message path place date))
  dates_made t None text m f h none = refl
  dates_made t (Some date) text m f h none = ((text, omega (arith, h), none, (m, f)), refl, refl)

  date_there : (rows : List DateField) (date : Option SentDate) → row_at date_field_key (field_key message path place) rows ≡ None
      → row_at date_field_key (field_key message path place) (with_rows date_field_key (date_rows message path place date) rows) ≡ option_map (date_row message path place) date
  date_there rows None none = none
  date_there rows (Some date) none = laws.date_fields.same (date_row message path place date) rows

-- ---- the field

pub record Adds (message : ℕ) (path : List ℕ) (place : ℕ) (field : Field) (t : TableRows) (changes : List RowChange) : Type 0 where
  pub after : TableRows
  pub made : Makes message t changes after
  pub within : AllByRecursion (IsAt (Here path)) changes
  pub shared : after.shared ≡ t.shared
  pub added : IsAdded message path place field t after

all_map : {X Y : Type 0} (P : Y → Type 0) (f : X → Y) (xs : List X) → AllByRecursion (λ x. P (f x)) xs → AllByRecursion P (map f xs)
all_map P f [] h = tt
all_map P f (x ∷ xs) h = (h.0, all_map P f xs h.1)

module _ (message : ℕ) (path : List ℕ) (place : ℕ) (P : RowChange → Type 0) where
  of_items : ((r : AddressField) → r.path ≡ path → r.place ≡ place → P (InsertAddressField r)) → (n : ℕ) (items : List Item) (ids : List ℕ) → AllByRecursion (λ r. P (InsertAddressField r)) (item_rows message path place n items ids)
  of_items f n [] ids = tt
  of_items f n (i ∷ items) [] = tt
  of_items f n (i ∷ items) (id ∷ ids) = (f _ refl refl, of_items f (n + 1) items ids)

  of_ids : ((r : MessageId) → r.path ≡ path → r.place ≡ place → P (InsertMessageId r)) → (n : ℕ) (ids : List (List ℕ)) → AllByRecursion (λ r. P (InsertMessageId r)) (id_rows message path place n ids)
  of_ids f n [] = tt
  of_ids f n (i ∷ ids) = (f _ refl refl, of_ids f (n + 1) ids)

  of_date : ((r : DateField) → r.path ≡ path → r.place ≡ place → P (InsertDateField r)) → (date : Option SentDate) → AllByRecursion (λ r. P (InsertDateField r)) (date_rows message path place date)
  of_date f None = tt
  of_date f (Some date) = (f _ refl refl, tt)

  of_values : ((r : AddressField) → r.path ≡ path → r.place ≡ place → P (InsertAddressField r)) → ((r : DateField) → r.path ≡ path → r.place ≡ place → P (InsertDateField r)) → ((r : MessageId) → r.path ≡ path → r.place ≡ place → P (InsertMessageId r))
      → (field : Field) (ids : List ℕ) → AllByRecursion P (value_changes message path place field ids)
  of_values f g h field ids =
      all_joined P (map InsertAddressField (item_rows message path place 0 (items_of field.value) ids)) (map InsertDateField (date_rows message path place (date_of field.value)) ++ map InsertMessageId (id_rows message path place 0 (ids_of field.value)))
      (all_map P InsertAddressField (item_rows message path place 0 (items_of field.value) ids) (of_items f 0 (items_of field.value) ids))
      (all_joined P (map InsertDateField (date_rows message path place (date_of field.value))) (map InsertMessageId (id_rows message path place 0 (ids_of field.value))) (all_map P InsertDateField (date_rows message path place (date_of field.value)) (of_date g (date_of field.value)))
      (all_map P InsertMessageId (id_rows message path place 0 (ids_of field.value)) (of_ids h 0 (ids_of field.value))))

module _ (laws : RowLaws) (message : ℕ) (path : List ℕ) (place : ℕ) (field : Field) (name : ℕ) (ids : List ℕ) (t : TableRows) (ordered : AreOrdered t) (closed : AreClosed t) (m : HasMessage t message) (p : HasPart t message path)
    (path_fits : IsText path) (text_fits : IsText (text_of field.value)) (ids_fit : AllByRecursion IsText (ids_of field.value)) (printed : IsPrinted (date_of field.value)) (named : HasName t.shared.field_names name field.name)
    (are_ids : AreAddressIds t.shared.addresses (items_of field.value) ids) (before : AreBefore place (fields_at message path t.mails.header_fields)) where
  abbrev row : HeaderField
  row = field_row message path place field name

  abbrev items : List AddressField
  items = item_rows message path place 0 (items_of field.value) ids

  abbrev dates : List DateField
  dates = date_rows message path place (date_of field.value)

  abbrev message_ids : List MessageId
  message_ids = id_rows message path place 0 (ids_of field.value)

  abbrev one : TableRows
  one = applied t (InsertHeaderField row)

  abbrev two : TableRows
  two = with_addresses laws message path place one items

  abbrev three : TableRows
  three = with_dates laws message path place two dates

  abbrev four : TableRows
  four = with_ids laws message path place three message_ids

  none : row_at header_field_key (field_key message path place) t.mails.header_fields ≡ None
  none = field_free laws message path place t.mails.header_fields before

  empty : HasNoValue t message path place
  empty = no_values laws t message path place closed none

  has_field : HasField one message path place
  has_field = ap is_some (laws.header_fields.same row t.mails.header_fields)

  open_addresses : IsOpenFrom address_field_key laws laws.address_fields (an_address laws message path place) (nth laws message path place) (an_address_key laws message path place) (up laws message path place) 0 t.mails.address_fields
  open_addresses n le = subst (AreBelow address_field_key laws laws.address_fields (item_key message path place n)) (sym empty.addresses) tt

  open_ids : IsOpenFrom message_id_key laws laws.message_ids (an_id laws message path place) (nth laws message path place) (an_id_key laws message path place) (up laws message path place) 0 t.mails.message_ids
  open_ids n le = subst (AreBelow message_id_key laws laws.message_ids (item_key message path place n)) (sym empty.ids) tt

  has_name : HasFieldName t name
  has_name = some_there (λ (r : FieldName). r.name) (row_at field_name_key (number_key name) t.shared.field_names) field.name named

  all_made : Makes message t (InsertHeaderField row ∷ value_changes message path place field ids) four
  all_made = (
    (path_fits, text_fits, none, (m, p, has_name)),
    refl,
    makes_then message one (map InsertAddressField items) (map InsertDateField dates ++ map InsertMessageId message_ids) two four (items_made laws message path place one 0 (items_of field.value) ids path_fits m has_field are_ids open_addresses)
        (makes_then message two (map InsertDateField dates) (map InsertMessageId message_ids) three four (dates_made laws message path place two (date_of field.value) path_fits m has_field printed empty.date)
        (ids_made laws message path place three 0 (ids_of field.value) path_fits m has_field ids_fit open_ids)),
  )

  is_row : IsFieldRow four message path place field row
  is_row = record {
    at = refl;
    name = named;
    form = refl;
    text = refl;
    addresses = subst (AreItemRows t.shared.addresses 0 (items_of field.value))
        (sym (all_behind address_field_key laws laws.address_fields (an_address laws message path place) (nth laws message path place) (an_address_key laws message path place) (up laws message path place) 0 items t.mails.address_fields
        (items_numbered laws message path place 0 (items_of field.value) ids) open_addresses ∙ ap (λ l. l ++ items) empty.addresses))
        (are_item_rows laws message path place t.shared.addresses 0 (items_of field.value) ids are_ids);
    date = date_there laws message path place t.mails.date_fields (date_of field.value) empty.date;
    printed = printed;
    ids = all_behind message_id_key laws laws.message_ids (an_id laws message path place) (nth laws message path place) (an_id_key laws message path place) (up laws message path place) 0 message_ids t.mails.message_ids
        (ids_numbered laws message path place 0 (ids_of field.value)) open_ids ∙ ap (λ l. l ++ message_ids) empty.ids;
  }

  pub field_added : Adds message path place field t (InsertHeaderField row ∷ value_changes message path place field ids)
  field_added = record {
    after = four;
    made = all_made;
    within = (refl, of_values message path place (IsAt (Here path)) (λ r e f. e) (λ r e f. e) (λ r e f. e) field ids);
    shared = refl;
    added = record {
      row = row;
      last = field_behind laws message path row t.mails.header_fields refl refl before;
      is = is_row;
      others = λ other n. values_along laws message path other t (InsertHeaderField row ∷ value_changes message path place field ids) four ordered
          (tt, of_values message path place (MissesPlace other) (λ r e f q. n (sym q ∙ f)) (λ r e f q. n (sym q ∙ f)) (λ r e f q. n (sym q ∙ f)) field ids) all_made;
    };
  }
