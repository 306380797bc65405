-- The rows of a field are those of one field.
use Rattle.std.proofs.Common.{◌≡◌, ℕ, ◌+◌, List, [], ◌∷◌, Some, refl, sym, ap, ◌∙◌, arith}
use Rattle.mime_tree.specs.declared.values.Field.{Field}
use Rattle.mime_tree.specs.declared.values.Item.{Item}
use Rattle.mime_tree.specs.declared.values.Item.TheVariants.{Address, Group, GroupEnd}
use Rattle.mime_tree.specs.declared.values.SentDate.{SentDate}
use Rattle.mime_tree.specs.declared.values.Value.{Value}
use Rattle.mime_tree.specs.declared.values.Value.TheVariants.{Text, Addresses, Date, Ids}
use Rattle.row_tables.specs.TableRows.{TableRows}
use Rattle.row_tables.specs.declared.mails.HeaderField.{HeaderField}
use Rattle.row_tables.specs.declared.values.AddressField.{AddressField}
use Rattle.row_tables.specs.declared.values.DateField.{DateField}
use Rattle.row_tables.specs.declared.values.MessageId.{MessageId}
use Rattle.row_tables.specs.declared.contents.AddressRow.{AddressRow}
use Rattle.shredder.specs.MessageRows.{AddressTexts, HasAddress, IsItemRow, AreItemRows, IsFieldRow, AreFieldRows, HasFields, date_row, id_rows}

pub some_same : {X : Type 0} {x y : X} → Some x ≡ Some y → x ≡ y
some_same e = cc

-- ---- items

same_texts : (addresses : List AddressRow) (id : ℕ) (a b : AddressTexts) → HasAddress addresses id a → HasAddress addresses id b → a ≡ b
same_texts addresses id a b h k = some_same (sym h ∙ k)

same_item : (addresses : List AddressRow) (place : ℕ) (i j : Item) (r : AddressField) → IsItemRow addresses place i r → IsItemRow addresses place j r → i ≡ j
same_item addresses place (Address n l d) (Address m k e) r h g =
    ap (λ (t : AddressTexts). Address t.name t.local t.domain) (same_texts addresses r.address (record { name = n; local = l; domain = d }) (record { name = m; local = k; domain = e }) h.address g.address)
same_item addresses place (Address n l d) (Group m) r h g = absurd (omega (arith, h.kind, g.kind))
same_item addresses place (Address n l d) GroupEnd r h g = absurd (omega (arith, h.kind, g.kind))
same_item addresses place (Group n) (Address m k e) r h g = absurd (omega (arith, h.kind, g.kind))
same_item addresses place (Group n) (Group m) r h g =
    ap (λ (t : AddressTexts). Group t.name) (same_texts addresses r.address (record { name = n; local = []; domain = [] }) (record { name = m; local = []; domain = [] }) h.address g.address)
same_item addresses place (Group n) GroupEnd r h g = absurd (omega (arith, h.kind, g.kind))
same_item addresses place GroupEnd (Address m k e) r h g = absurd (omega (arith, h.kind, g.kind))
same_item addresses place GroupEnd (Group m) r h g = absurd (omega (arith, h.kind, g.kind))
same_item addresses place GroupEnd GroupEnd r h g = refl

pub same_items : (addresses : List AddressRow) (place : ℕ) (is js : List Item) (rows : List AddressField) → AreItemRows addresses place is rows → AreItemRows addresses place js rows → is ≡ js
same_items addresses place [] [] rows h g = refl
same_items addresses place [] (j ∷ js) [] h g = absurd g
same_items addresses place [] (j ∷ js) (r ∷ rows) h g = absurd h
same_items addresses place (i ∷ is) js [] h g = absurd h
same_items addresses place (i ∷ is) [] (r ∷ rows) h g = absurd g
same_items addresses place (i ∷ is) (j ∷ js) (r ∷ rows) h g =
    ap (λ x. x ∷ is) (same_item addresses place i j r h.0 g.0) ∙ ap (λ l. j ∷ l) (same_items addresses (place + 1) is js rows h.1 g.1)

-- ---- dates and ids

same_date : (message : ℕ) (path : List ℕ) (place : ℕ) (d e : SentDate) → date_row message path place d ≡ date_row message path place e → d ≡ e
same_date message path place d e q = ap (λ (r : DateField). record { text = r.value; seconds = r.seconds; day = r.day }) q

pub same_ids : (message : ℕ) (path : List ℕ) (place item : ℕ) (is js : List (List ℕ)) → id_rows message path place item is ≡ id_rows message path place item js → is ≡ js
same_ids message path place item [] [] e = refl
same_ids message path place item [] (j ∷ js) e = cc
same_ids message path place item (i ∷ is) [] e = cc
same_ids message path place item (i ∷ is) (j ∷ js) e =
    ap (λ x. x ∷ is) (first _ _ e) ∙ ap (λ l. j ∷ l) (same_ids message path place (item + 1) is js (rest _ _ e))
  where
    first : (a b : List MessageId) → record { message = message; path = path; place = place; item = item; value = i } ∷ a ≡ record { message = message; path = path; place = place; item = item; value = j } ∷ b → i ≡ j
    first a b q =
        let rows : record { message = message; path = path; place = place; item = item; value = i } ≡ record { message = message; path = path; place = place; item = item; value = j } = cc in
        ap (λ (r : MessageId). r.value) rows

    rest : {r s : MessageId} (a b : List MessageId) → r ∷ a ≡ s ∷ b → a ≡ b
    rest a b q = cc

-- ---- fields

module _ (t : TableRows) (message : ℕ) (path : List ℕ) where
  same_value : (place : ℕ) (n m : List ℕ) (v w : Value) (r : HeaderField) → IsFieldRow t message path place (record { name = n; value = v }) r → IsFieldRow t message path place (record { name = m; value = w }) r → v ≡ w
  same_value place n m (Text v) (Text w) r h g = ap Text (sym h.text ∙ g.text)
  same_value place n m (Text v) (Addresses w) r h g = absurd (omega (arith, h.form, g.form))
  same_value place n m (Text v) (Date w) r h g = absurd (omega (arith, h.form, g.form))
  same_value place n m (Text v) (Ids w) r h g = absurd (omega (arith, h.form, g.form))
  same_value place n m (Addresses v) (Text w) r h g = absurd (omega (arith, h.form, g.form))
  same_value place n m (Addresses v) (Addresses w) r h g = ap Addresses (same_items t.shared.addresses 0 v w _ h.addresses g.addresses)
  same_value place n m (Addresses v) (Date w) r h g = absurd (omega (arith, h.form, g.form))
  same_value place n m (Addresses v) (Ids w) r h g = absurd (omega (arith, h.form, g.form))
  same_value place n m (Date v) (Text w) r h g = absurd (omega (arith, h.form, g.form))
  same_value place n m (Date v) (Addresses w) r h g = absurd (omega (arith, h.form, g.form))
  same_value place n m (Date v) (Date w) r h g = ap Date (same_date message path place v w (some_same (sym h.date ∙ g.date)))
  same_value place n m (Date v) (Ids w) r h g = absurd (omega (arith, h.form, g.form))
  same_value place n m (Ids v) (Text w) r h g = absurd (omega (arith, h.form, g.form))
  same_value place n m (Ids v) (Addresses w) r h g = absurd (omega (arith, h.form, g.form))
  same_value place n m (Ids v) (Date w) r h g = absurd (omega (arith, h.form, g.form))
  same_value place n m (Ids v) (Ids w) r h g = ap Ids (same_ids message path place 0 v w (sym h.ids ∙ g.ids))

  same_field : (place : ℕ) (f g : Field) (r : HeaderField) → IsFieldRow t message path place f r → IsFieldRow t message path place g r → f ≡ g
  same_field place f g r h k =
      let name : f.name ≡ g.name = some_same (sym h.name ∙ k.name) in
      ap (λ (n : List ℕ). record { name = n; value = f.value }) name ∙ ap (λ (v : Value). record { name = g.name; value = v }) (same_value place f.name g.name f.value g.value r h k)

  same_rows : (place : ℕ) (fs gs : List Field) (rows : List HeaderField) → AreFieldRows t message path place fs rows → AreFieldRows t message path place gs rows → fs ≡ gs
  same_rows place [] [] rows h k = refl
  same_rows place [] (g ∷ gs) [] h k = absurd k
  same_rows place [] (g ∷ gs) (r ∷ rows) h k = absurd h
  same_rows place (f ∷ fs) gs [] h k = absurd h
  same_rows place (f ∷ fs) [] (r ∷ rows) h k = absurd k
  same_rows place (f ∷ fs) (g ∷ gs) (r ∷ rows) h k =
      ap (λ x. x ∷ fs) (same_field place f g r h.0 k.0) ∙ ap (λ l. g ∷ l) (same_rows (place + 1) fs gs rows h.1 k.1)

  pub same_fields : (fs gs : List Field) → HasFields t message path fs → HasFields t message path gs → fs ≡ gs
  same_fields fs gs h k = same_rows 0 fs gs _ h.rows k.rows
