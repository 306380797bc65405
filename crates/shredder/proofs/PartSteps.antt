-- The row of one part.
use Rattle.std.proofs.Common.{◌≡◌, ℕ, ◌<◌, ◌≤◌, List, [], ◌∷◌, ◌++◌, Some, None, IsSome, is_some, refl, sym, ap, ◌∙◌, subst, arith}
use Rattle.ordered_rows.specs.RowKey.{RowKey, number_key}
use Rattle.ordered_rows.specs.Listed.{row_at}
use Rattle.row_tables.specs.Keys.{part_key, body_part_key, part_number_key, header_field_key}
use Rattle.row_tables.specs.TableRows.{TableRows}
use Rattle.row_tables.specs.References.{AreClosed, HasBody, FieldRefers, fields_at}
use Rattle.row_tables.specs.Fits.{IsText, Fits, applied}
use Rattle.row_tables.specs.declared.mails.PartNumber.{PartNumber}
use Rattle.row_tables.specs.declared.contents.BodyPart.{BodyPart}
use Rattle.row_tables.specs.declared.change.RowChange.{RowChange}
use Rattle.row_tables.specs.declared.change.RowChange.TheVariants.{InsertPartNumber}
use Rattle.row_store.specs.Holding.{stored_by, in_row}
use Rattle.shredder.specs.MessageRows.{HasLeaf, HasInner, HasNothing, part_at}
use Rattle.shredder.specs.Shredding.{SameAt}
use Rattle.shredder.specs.Making.{RowLaws, RowHasBytes, Nowhere, Here, Between, Leads}
use Rattle.shredder.proofs.Lookups.{mapped_some}
use Rattle.shredder.proofs.Frames.{is_field_at, fields_by_test}
use Rattle.shredder.proofs.Groups.{none_pass, none_found}
use Rattle.shredder.proofs.Steps.{leads_then, leads_own, leads_same}
use Rattle.shredder.proofs.FieldRows.{there, field_is, no_values}

-- ---- a path without a part has nothing

pub no_fields : (t : TableRows) (message : ℕ) (path : List ℕ) → AreClosed t → part_at t message path ≡ None → fields_at message path t.mails.header_fields ≡ []
no_fields t message path closed none =
    fields_by_test message path t.mails.header_fields ∙ none_pass (FieldRefers t) (is_field_at message path)
    (λ x h e. let k = field_is message path x e in there (part_at t message path) none (subst (λ (i : ℕ). IsSome (row_at part_number_key (part_key i path) t.mails.part_numbers)) (ap (λ (y : RowKey). y.number) k)
    (subst (λ (p : List ℕ). IsSome (row_at part_number_key (part_key x.message p) t.mails.part_numbers)) (ap (λ (y : RowKey). y.text) k) h.1))) t.mails.header_fields closed.header_fields

pub nothing_at : (laws : RowLaws) (t : TableRows) (message : ℕ) (path : List ℕ) → AreClosed t → part_at t message path ≡ None → HasNothing t message path
nothing_at laws t message path closed none = record {
  part = none;
  fields = no_fields t message path closed none;
  values = λ place. no_values laws t message path place closed (none_found (FieldRefers t) _
      (λ x h e. let k = laws.same (header_field_key x) (record { number = message; text = path; second = []; third = []; place = place; item = 0 }) e in
      there (part_at t message path) none (subst (λ (i : ℕ). IsSome (row_at part_number_key (part_key i path) t.mails.part_numbers)) (ap (λ (y : RowKey). y.number) k)
      (subst (λ (p : List ℕ). IsSome (row_at part_number_key (part_key x.message p) t.mails.part_numbers)) (ap (λ (y : RowKey). y.text) k) h.1))) t.mails.header_fields closed.header_fields);
}

-- ---- the part

module _ (laws : RowLaws) (message : ℕ) (t : TableRows) (path : List ℕ) (kind : ℕ) (path_fits : IsText path) where
  part_step : (now added : TableRows) (changes changes_after : List RowChange) (body : ℕ) → Between message t added now → part_at now message path ≡ None → (kind < 2 → HasBody now body)
      → changes_after ≡ changes ++ InsertPartNumber (record { message = message; path = path; kind = kind; body = body }) ∷ []
      → Leads message t now added changes (Here path) (λ after. (after.shared ≡ now.shared) × (part_at after message path ≡ Some (record { message = message; path = path; kind = kind; body = body })) × (fields_at message path after.mails.header_fields ≡ [])) added changes_after
  part_step now added changes changes_after body b none refers e =
      let row : PartNumber = record { message = message; path = path; kind = kind; body = body } in
      let fits : Fits now (InsertPartNumber row) = (path_fits, none, (b.there, refers)) in
      leads_own message t laws now added changes (InsertPartNumber row ∷ []) changes_after (applied now (InsertPartNumber row)) (Here path)
      (λ after. (after.shared ≡ now.shared) × (part_at after message path ≡ Some row) × (fields_at message path after.mails.header_fields ≡ [])) b e (fits, refl, refl) (refl, tt) refl
      (refl, laws.part_numbers.same row now.mails.part_numbers, no_fields now message path b.closed none)

  pub inner_step : (now added : TableRows) (changes changes_after : List RowChange) → 2 ≤ kind → Between message t added now → part_at now message path ≡ None
      → changes_after ≡ changes ++ InsertPartNumber (record { message = message; path = path; kind = kind; body = 0 }) ∷ []
      → Leads message t now added changes (Here path) (λ after. HasInner after message path kind × (fields_at message path after.mails.header_fields ≡ [])) added changes_after
  inner_step now added changes changes_after le b none e =
      let step = part_step now added changes changes_after 0 b none (λ lt. absurd (omega (arith, le, lt))) e in
      record { after = step.after; more = step.more; grown = step.grown; made = step.made; within = step.within; between = step.between; holds = (step.holds.1, step.holds.2) }

  pub leaf_step : (now added0 added1 : TableRows) (changes0 changes1 changes2 : List RowChange) (body : ℕ) (bytes : List ℕ) → Between message t added0 now → part_at now message path ≡ None
      → Leads message t now added0 changes0 Nowhere (λ after. RowHasBytes after.shared.bodyparts body bytes) added1 changes1
      → changes2 ≡ changes1 ++ InsertPartNumber (record { message = message; path = path; kind = kind; body = body }) ∷ []
      → Leads message t now added0 changes0 (Here path) (λ after. HasLeaf (stored_by in_row after) message path kind bytes × (fields_at message path after.mails.header_fields ≡ [])) added1 changes2
  leaf_step now added0 added1 changes0 changes1 changes2 body bytes b none first e =
      let B : TableRows → Type 0 = λ after. RowHasBytes after.shared.bodyparts body bytes in
      let L : TableRows → Type 0 = λ after. HasLeaf (stored_by in_row after) message path kind bytes × (fields_at message path after.mails.header_fields ≡ []) in
      let same : SameAt message path now first.after = leads_same message t laws now added0 added1 changes0 changes1 Nowhere B b first path (λ h. h) in
      let it = mapped_some (λ (r : BodyPart). r.content) (row_at body_part_key (number_key body) first.after.shared.bodyparts) bytes first.holds.0 in
      let step = part_step first.after added1 changes1 changes2 body first.between (same.part ∙ none) (λ lt. ap is_some it.1) e in
      let second : Leads message t first.after added1 changes1 (Here path) L added1 changes2 = record {
        after = step.after;
        more = step.more;
        grown = step.grown;
        made = step.made;
        within = step.within;
        between = step.between;
        holds = (record { body = body; part = step.holds.1; bytes_are = subst (λ s. RowHasBytes s.bodyparts body bytes) (sym step.holds.0) first.holds }, step.holds.2);
      } in
      leads_then message t now added0 added1 added1 changes0 changes1 changes2 Nowhere (Here path) (Here path) B L (λ p h. absurd h) (λ p h. h) first second
