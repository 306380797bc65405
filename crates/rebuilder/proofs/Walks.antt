-- What is read row by row.
use Rattle.std.proofs.Common.{◌≡◌, ℕ, ◌+◌, List, [], ◌∷◌, ◌++◌, length, refl, sym, ap, ◌∙◌, subst}
use Rattle.std.proofs.lemmas.List.{append_assoc, append-nil, length_push}
use Rattle.mime_tree.specs.declared.values.Field.{Field}
use Rattle.mime_tree.specs.declared.values.Item.{Item}
use Rattle.row_tables.specs.TableRows.{TableRows}
use Rattle.row_tables.specs.declared.mails.HeaderField.{HeaderField}
use Rattle.row_tables.specs.declared.values.AddressField.{AddressField}
use Rattle.row_tables.specs.declared.values.MessageId.{MessageId}
use Rattle.row_tables.specs.declared.contents.AddressRow.{AddressRow}
use Rattle.shredder.specs.MessageRows.{IsItemRow, AreItemRows, IsFieldRow, AreFieldRows, id_rows}

-- The row of one value, and the others.
pub record First {X R : Type 0} (Is : ℕ → X → R → Type 0) (Are : ℕ → List X → List R → Type 0) (n : ℕ) (xs : List X) (r : R) (left : List R) : Type 0 where
  pub value : X
  pub others : List X
  pub is : xs ≡ value ∷ others
  pub row : Is n value r
  pub rows : Are (n + 1) others left

-- A row for each value, in their order; their places are counted from n.
pub record IsRowByRow {X R : Type 0} (Is : ℕ → X → R → Type 0) (Are : ℕ → List X → List R → Type 0) : Type 0 where
  pub none : (n : ℕ) (xs : List X) → Are n xs [] → xs ≡ []
  pub first : (n : ℕ) (xs : List X) (r : R) (left : List R) → Are n xs (r ∷ left) → First Is Are n xs r left

-- Of a walk over the rows of values: the first of these were read, and the rows to come are those of the rest.
pub record IsHalfway {X R : Type 0} (Are : ℕ → List X → List R → Type 0) (xs done : List X) (left : List R) : Type 0 where
  pub rest : List X
  pub whole : xs ≡ done ++ rest
  pub to_come : Are (length done) rest left

module _ {X R : Type 0} (Is : ℕ → X → R → Type 0) (Are : ℕ → List X → List R → Type 0) (law : IsRowByRow Is Are) (xs : List X) where
  pub begun : (rows : List R) → Are 0 xs rows → IsHalfway Are xs [] rows
  begun rows h = record { rest = xs; whole = refl; to_come = h }

  -- one value more was read
  pub gone_on : (done : List X) (left : List R) (r : R) (after : List R) (read : X) → ((x : X) → Is (length done) x r → read ≡ x)
      → left ≡ r ∷ after → IsHalfway Are xs done left → IsHalfway Are xs (done ++ read ∷ []) after
  gone_on done left r after read same e h =
      let first = law.first (length done) h.rest r after (subst (Are (length done) h.rest) e h.to_come) in
      let rest : h.rest ≡ read ∷ first.others = first.is ∙ ap (λ (x : X). x ∷ first.others) (sym (same first.value first.row)) in
      record {
        rest = first.others;
        whole = h.whole ∙ ap (λ (l : List X). done ++ l) rest ∙ sym (append_assoc done (read ∷ []) first.others);
        to_come = subst (λ n. Are n first.others after) (sym (length_push done read)) first.rows;
      }

  pub ended : (done : List X) (left : List R) → left ≡ [] → IsHalfway Are xs done left → done ≡ xs
  ended done left e h =
      let none : h.rest ≡ [] = law.none (length done) h.rest (subst (Are (length done) h.rest) e h.to_come) in
      sym (h.whole ∙ ap (λ (l : List X). done ++ l) none ∙ append-nil done)

-- ---- items, ids and fields

pub item_by_item : (addresses : List AddressRow) → IsRowByRow (IsItemRow addresses) (AreItemRows addresses)
item_by_item addresses = record { none = none; first = first }
  where
    none : (n : ℕ) (items : List Item) → AreItemRows addresses n items [] → items ≡ []
    none n [] h = refl
    none n (i ∷ items) h = absurd h

    first : (n : ℕ) (items : List Item) (r : AddressField) (left : List AddressField) → AreItemRows addresses n items (r ∷ left) → First (IsItemRow addresses) (AreItemRows addresses) n items r left
    first n [] r left h = absurd h
    first n (i ∷ items) r left h = record { value = i; others = items; is = refl; row = h.0; rows = h.1 }

module _ (message : ℕ) (path : List ℕ) (place : ℕ) where
  abbrev pub IsIdRow : ℕ → List ℕ → MessageId → Type 0
  IsIdRow n id r = r ≡ record { message = message; path = path; place = place; item = n; value = id }

  abbrev pub AreIdRows : ℕ → List (List ℕ) → List MessageId → Type 0
  AreIdRows n ids rows = rows ≡ id_rows message path place n ids

  pub id_by_id : IsRowByRow IsIdRow AreIdRows
  id_by_id = record { none = none; first = first }
    where
      none : (n : ℕ) (ids : List (List ℕ)) → AreIdRows n ids [] → ids ≡ []
      none n [] h = refl
      none n (i ∷ ids) h = cc

      first : (n : ℕ) (ids : List (List ℕ)) (r : MessageId) (left : List MessageId) → AreIdRows n ids (r ∷ left) → First IsIdRow AreIdRows n ids r left
      first n [] r left h = cc
      first n (i ∷ ids) r left h = record { value = i; others = ids; is = refl; row = cc; rows = cc }

  -- the value of the row is the id
  pub id_read : (n : ℕ) (read : List ℕ) (r : MessageId) → read ≡ r.value → (id : List ℕ) → IsIdRow n id r → read ≡ id
  id_read n read r e id h = e ∙ ap (λ (f : MessageId). f.value) h

module _ (t : TableRows) (message : ℕ) (path : List ℕ) where
  pub field_by_field : IsRowByRow (IsFieldRow t message path) (AreFieldRows t message path)
  field_by_field = record { none = none; first = first }
    where
      none : (n : ℕ) (fields : List Field) → AreFieldRows t message path n fields [] → fields ≡ []
      none n [] h = refl
      none n (f ∷ fields) h = absurd h

      first : (n : ℕ) (fields : List Field) (r : HeaderField) (left : List HeaderField) → AreFieldRows t message path n fields (r ∷ left) → First (IsFieldRow t message path) (AreFieldRows t message path) n fields r left
      first n [] r left h = absurd h
      first n (f ∷ fields) r left h = record { value = f; others = fields; is = refl; row = h.0; rows = h.1 }
