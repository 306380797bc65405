-- The fields of a part, one after another.
use Rattle.std.proofs.Common.{◌≡◌, ℕ, ◌+◌, ◌≤◌, Bool, true, false, List, [], ◌∷◌, ◌++◌, length, IsSome, is_some, refl, sym, ap, ◌∙◌, subst, arith}
use Rattle.std.specs.List.{AllByRecursion}
use Rattle.mime_tree.specs.declared.values.Field.{Field}
use Rattle.mime_tree.specs.declared.values.Value.{Value}
use Rattle.mime_tree.specs.declared.values.Value.TheVariants.{Text, Addresses, Date, Ids}
use Rattle.ordered_rows.specs.RowKey.{same_key}
use Rattle.ordered_rows.specs.Listed.{row_at, with_row}
use Rattle.row_tables.specs.Keys.{part_key, part_number_key}
use Rattle.row_tables.specs.TableRows.{TableRows}
use Rattle.row_tables.specs.References.{HasPart, fields_at}
use Rattle.row_tables.specs.Fits.{IsText, applied}
use Rattle.row_tables.specs.declared.mails.HeaderField.{HeaderField}
use Rattle.row_tables.specs.declared.change.RowChange.{RowChange}
use Rattle.row_tables.specs.declared.change.RowChange.TheVariants.{InsertMessageRow, InsertBodyPart, InsertPartNumber, InsertFieldName, InsertHeaderField, InsertAddressRow, InsertAddressField, InsertDateField, InsertMessageId, InsertUnparsedMessage}
use Rattle.row_store.specs.Holding.{stored_by, in_row}
use Rattle.shredder.specs.MessageRows.{HasName, IsPrinted, IsFieldRow, AreFieldRows, HasFields, text_of, items_of, date_of, ids_of}
use Rattle.shredder.specs.Distinct.{Keeps}
use Rattle.shredder.specs.Fitting.{ValueFits, FieldFits}
use Rattle.shredder.specs.Shredding.{SameAt}
use Rattle.shredder.specs.Making.{Suits, RowLaws, Makes, Nowhere, Here, Between, Leads, SameValues, IsAdded, AreBefore, AreAddressIds, field_row, value_changes}
use Rattle.shredder.proofs.Frames.{same_then}
use Rattle.shredder.proofs.Staying.{rows_stay}
use Rattle.shredder.proofs.Steps.{leads_then, leads_so, leads_own, leads_keeps, leads_same}
use Rattle.shredder.proofs.FieldRows.{field_added, field_free, no_values}

-- ---- a part stays there

part_kept : (laws : RowLaws) (message : ℕ) (path : List ℕ) (t : TableRows) (change : RowChange) → Suits message t change → HasPart t message path → HasPart (applied t change) message path
part_kept laws message path t (InsertMessageRow r) suits h = h
part_kept laws message path t (InsertBodyPart r) suits h = h
part_kept laws message path t (InsertPartNumber r) suits h = by (same_key (part_number_key r) (part_key message path)) refl
  where
    by : (b : Bool) → same_key (part_number_key r) (part_key message path) ≡ b → IsSome (row_at part_number_key (part_key message path) (with_row part_number_key r t.mails.part_numbers))
    by true q = subst (λ k. IsSome (row_at part_number_key k (with_row part_number_key r t.mails.part_numbers))) (laws.same (part_number_key r) (part_key message path) q) (ap is_some (laws.part_numbers.same r t.mails.part_numbers))
    by false q = ap is_some (laws.part_numbers.other r (part_key message path) t.mails.part_numbers q) ∙ h
part_kept laws message path t (InsertFieldName r) suits h = h
part_kept laws message path t (InsertHeaderField r) suits h = h
part_kept laws message path t (InsertAddressRow r) suits h = h
part_kept laws message path t (InsertAddressField r) suits h = h
part_kept laws message path t (InsertDateField r) suits h = h
part_kept laws message path t (InsertMessageId r) suits h = h
part_kept laws message path t (InsertUnparsedMessage r) suits h = h
part_kept laws message path t _ suits h = absurd suits

pub part_along : (laws : RowLaws) (message : ℕ) (path : List ℕ) (t : TableRows) (changes : List RowChange) (after : TableRows) → HasPart t message path → Makes message t changes after → HasPart after message path
part_along laws message path t [] after h e = subst (λ u. HasPart u message path) e h
part_along laws message path t (change ∷ changes) after h m = part_along laws message path (applied t change) changes after (part_kept laws message path t change m.1 h) m.2

-- ---- one field

text_fits : (v : Value) → ValueFits v → IsText (text_of v)
text_fits (Text value) h = h
text_fits (Addresses items) h = omega arith
text_fits (Date date) h = omega arith
text_fits (Ids ids) h = omega arith

ids_fit : (v : Value) → ValueFits v → AllByRecursion IsText (ids_of v)
ids_fit (Text value) h = tt
ids_fit (Addresses items) h = tt
ids_fit (Date date) h = tt
ids_fit (Ids ids) h = h.1

values_since : (message : ℕ) (path : List ℕ) (place : ℕ) (now middle after : TableRows) → SameAt message path now middle → SameValues message path place middle after → SameValues message path place now after
values_since message path place now middle after a b = record { addresses = b.addresses ∙ a.addresses place; date = b.date ∙ a.dates place; ids = b.ids ∙ a.ids place }

added_since : (message : ℕ) (path : List ℕ) (place : ℕ) (field : Field) (now middle after : TableRows) → SameAt message path now middle → IsAdded message path place field middle after → IsAdded message path place field now after
added_since message path place field now middle after same h = record {
  row = h.row;
  last = h.last ∙ ap (λ l. l ++ h.row ∷ []) same.fields;
  is = h.is;
  others = λ other n. values_since message path other now middle after same (h.others other n);
}

pub field_step : (laws : RowLaws) (message : ℕ) (t : TableRows) (path : List ℕ) (place : ℕ) (field : Field) (now added0 added1 added2 : TableRows) (changes0 changes1 changes2 changes3 : List RowChange) (name : ℕ) (ids : List ℕ)
    → Between message t added0 now → HasPart now message path → AreBefore place (fields_at message path now.mails.header_fields) → FieldFits field → IsText path → IsPrinted (date_of field.value)
    → (names : Leads message t now added0 changes0 Nowhere (λ after. HasName after.shared.field_names name field.name) added1 changes1)
    → Leads message t names.after added1 changes1 Nowhere (λ after. AreAddressIds after.shared.addresses (items_of field.value) ids) added2 changes2
    → changes3 ≡ changes2 ++ InsertHeaderField (field_row message path place field name) ∷ value_changes message path place field ids
    → Leads message t now added0 changes0 (Here path) (IsAdded message path place field now) added2 changes3
field_step laws message t path place field now added0 added1 added2 changes0 changes1 changes2 changes3 name ids b part before fits path_fits printed names addresses e =
    let N : TableRows → Type 0 = λ after. HasName after.shared.field_names name field.name in
    let A : TableRows → Type 0 = λ after. AreAddressIds after.shared.addresses (items_of field.value) ids in
    let middle = addresses.after in
    let keeps : Keeps (stored_by in_row names.after) (stored_by in_row middle) = leads_keeps message t laws names.after added1 added2 changes1 changes2 Nowhere A names.between addresses in
    let same : SameAt message path now middle =
    same_then message path now names.after middle (leads_same message t laws now added0 added1 changes0 changes1 Nowhere N b names path (λ h. h)) (leads_same message t laws names.after added1 added2 changes1 changes2 Nowhere A names.between addresses path (λ h. h)) in
    let named : HasName middle.shared.field_names name field.name = keeps.names name field.name names.holds in
    let here : HasPart middle message path = ap is_some same.part ∙ part in
    let made = field_added laws message path place field name ids middle addresses.between.ordered addresses.between.closed addresses.between.there here path_fits (text_fits field.value fits.1) (ids_fit field.value fits.1) printed named addresses.holds
    (subst (AreBefore place) (sym same.fields) before) in
    let own : Leads message t middle added2 changes2 (Here path) (IsAdded message path place field now) added2 changes3 =
    leads_own message t laws middle added2 changes2 (InsertHeaderField (field_row message path place field name) ∷ value_changes message path place field ids) changes3 made.after (Here path) (IsAdded message path place field now) addresses.between e made.made made.within made.shared
    (added_since message path place field now middle made.after same made.added) in
    leads_then message t now added0 added1 added2 changes0 changes1 changes3 Nowhere (Here path) (Here path) N (IsAdded message path place field now) (λ p h. absurd h) (λ p h. h) names
    (leads_then message t names.after added1 added2 added2 changes1 changes2 changes3 Nowhere (Here path) (Here path) A (IsAdded message path place field now) (λ p h. absurd h) (λ p h. h) addresses own)

-- ---- all fields

-- the part is there, and has these fields so far
abbrev pub HasSome : TableRows → ℕ → List ℕ → List Field → Type 0
HasSome t message path fields = HasPart t message path × AreFieldRows t message path 0 fields (fields_at message path t.mails.header_fields)

rows_before : (t : TableRows) (message : ℕ) (path : List ℕ) (place : ℕ) (fields : List Field) (rows : List HeaderField) → AreFieldRows t message path place fields rows → AreBefore (place + length fields) rows
rows_before t message path place [] [] h = tt
rows_before t message path place [] (r ∷ rows) h = absurd h
rows_before t message path place (f ∷ fields) [] h = absurd h
rows_before t message path place (f ∷ fields) (r ∷ rows) h = (omega (arith, h.0.at), subst (λ n. AreBefore n rows) (omega arith) (rows_before t message path (place + 1) fields rows h.1))

before_more : (m n : ℕ) (rows : List HeaderField) → m ≤ n → AreBefore m rows → AreBefore n rows
before_more m n [] le h = tt
before_more m n (r ∷ rows) le h = (omega (arith, le, h.0), before_more m n rows le h.1)

rows_and : (t : TableRows) (message : ℕ) (path : List ℕ) (place : ℕ) (fields : List Field) (rows : List HeaderField) (f : Field) (r : HeaderField) → AreFieldRows t message path place fields rows → IsFieldRow t message path (place + length fields) f r
    → AreFieldRows t message path place (fields ++ f ∷ []) (rows ++ r ∷ [])
rows_and t message path place [] [] f r h k = (subst (λ n. IsFieldRow t message path n f r) (omega arith) k, tt)
rows_and t message path place [] (s ∷ rows) f r h k = absurd h
rows_and t message path place (g ∷ fields) [] f r h k = absurd h
rows_and t message path place (g ∷ fields) (s ∷ rows) f r h k = (h.0, rows_and t message path (place + 1) fields rows f r h.1 (subst (λ n. IsFieldRow t message path n f r) (omega arith) k))

-- where the next field stands
pub some_before : (t : TableRows) (message : ℕ) (path : List ℕ) (fields : List Field) (place : ℕ) → length fields ≡ place → HasSome t message path fields → AreBefore place (fields_at message path t.mails.header_fields)
some_before t message path fields place e h = subst (λ n. AreBefore n (fields_at message path t.mails.header_fields)) (omega (arith, e)) (rows_before t message path 0 fields (fields_at message path t.mails.header_fields) h.1)

-- one field more
pub fields_step : (laws : RowLaws) (message : ℕ) (t : TableRows) (path : List ℕ) (fields : List Field) (place : ℕ) (field : Field) (now added0 added1 : TableRows) (changes0 changes1 : List RowChange) → length fields ≡ place → Between message t added0 now → HasSome now message path fields
    → Leads message t now added0 changes0 (Here path) (IsAdded message path place field now) added1 changes1 → Leads message t now added0 changes0 (Here path) (λ after. HasSome after message path (fields ++ field ∷ [])) added1 changes1
fields_step laws message t path fields place field now added0 added1 changes0 changes1 e b some step =
    let P : TableRows → Type 0 = IsAdded message path place field now in
    let keeps : Keeps (stored_by in_row now) (stored_by in_row step.after) = leads_keeps message t laws now added0 added1 changes0 changes1 (Here path) P b step in
    let rows = fields_at message path now.mails.header_fields in
    let stay : AreFieldRows step.after message path 0 fields rows = rows_stay (stored_by in_row now) (stored_by in_row step.after) keeps message path 0 fields rows (λ other le. step.holds.others other (λ q. absurd (omega (arith, le, e, q)))) some.1 in
    let all : AreFieldRows step.after message path 0 (fields ++ field ∷ []) (rows ++ step.holds.row ∷ []) =
    rows_and step.after message path 0 fields rows field step.holds.row stay (subst (λ n. IsFieldRow step.after message path n field step.holds.row) (omega (arith, e)) step.holds.is) in
    leads_so message t now added0 added1 changes0 changes1 (Here path) (Here path) P (λ after. HasSome after message path (fields ++ field ∷ [])) (λ p h. h) step
    (part_along laws message path now step.more step.after some.0 step.made, subst (AreFieldRows step.after message path 0 (fields ++ field ∷ [])) (sym step.holds.last) all)

-- all of them
pub fields_done : (laws : RowLaws) (message : ℕ) (t : TableRows) (path : List ℕ) (fields : List Field) (now added0 added1 : TableRows) (changes0 changes1 : List RowChange) → Leads message t now added0 changes0 (Here path) (λ after. HasSome after message path fields) added1 changes1
    → Leads message t now added0 changes0 (Here path) (λ after. HasFields after message path fields) added1 changes1
fields_done laws message t path fields now added0 added1 changes0 changes1 l =
    leads_so message t now added0 added1 changes0 changes1 (Here path) (Here path) (λ after. HasSome after message path fields) (λ after. HasFields after message path fields) (λ p h. h) l (record {
      rows = l.holds.1;
      others = λ place le. no_values laws l.after message path place l.between.closed
          (field_free laws message path place l.after.mails.header_fields (before_more (length fields) place (fields_at message path l.after.mails.header_fields) le (some_before l.after message path fields (length fields) refl l.holds)));
    })
