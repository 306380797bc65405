-- Bodies that are placed.
use Rattle.std.proofs.Common.{◌≡◌, ◌⊎◌, ℕ, zero, suc, Bool, true, false, cond, ◌||◌, ◌==◌, List, [], ◌∷◌, ◌++◌, Option, Some, None, inl, inr, refl, sym, ap, ◌∙◌, subst, arith}
use mathlib.Core.Bool.{true≢false}
use borrow.Author.Tests.{eqb-true}
use Rattle.std.proofs.lemmas.Bool.{eq-eqb}
use Rattle.std.proofs.lemmas.List.Elements.{Contains-append_left, Contains-append_right, Contains-append_cases}
use Rattle.std.proofs.lemmas.List.Folds.{find-append}
use Rattle.std.specs.Option.{option_map, option_or}
use Rattle.std.specs.List.{Contains, find, list_any}
use Rattle.sha2.specs.Sha256.{sha256}
use Rattle.ordered_rows.specs.RowKey.{RowKey, same_key, number_key}
use Rattle.ordered_rows.specs.Listed.{has_key, has_number, row_at, with_row}
use Rattle.row_tables.specs.Keys.{body_part_key}
use Rattle.row_tables.specs.TableRows.{TableRows}
use Rattle.row_tables.specs.Fits.{IsText, Fits, applied}
use Rattle.row_tables.specs.declared.contents.BodyPart.{BodyPart}
use Rattle.row_tables.specs.declared.change.RowChange.{RowChange}
use Rattle.row_tables.specs.declared.change.RowChange.TheVariants.{InsertMessageRow, InsertBodyPart, InsertPartNumber, InsertFieldName, InsertHeaderField, InsertAddressRow, InsertAddressField, InsertDateField, InsertMessageId, InsertUnparsedMessage}
use Rattle.row_store.specs.Holding.{in_row}
use Rattle.row_store.specs.Bodies.{ArePlaced, IsPlaced, IsThere, IsNewBody, HasBytes as BodyHasBytes}
use Rattle.shredder.specs.Making.{RowLaws, RowHasBytes, LacksBytes, HaveIds, IsUnion, Suits, Makes, Nowhere, Between, Leads, holding}
use Rattle.shredder.proofs.Lookups.{some_none, some_same, mapped_some, find_passes, lacks_both, union_grown}
use Rattle.shredder.proofs.Frames.{same_keys}
use Rattle.shredder.proofs.Steps.{body_first, body_second}

-- ---- lists of bodies

-- what a test finds is in the list
found_in : (p : BodyPart → Bool) (bodies : List BodyPart) (r : BodyPart) → find p bodies ≡ Some r → Contains bodies r
found_in p [] r e = absurd (some_none r (sym e))
found_in p (x ∷ bodies) r e = by (p x) e (λ h. found_in p bodies r h)
  where
    by : (b : Bool) → cond b (Some x) (find p bodies) ≡ Some r → (find p bodies ≡ Some r → Contains bodies r) → Contains (x ∷ bodies) r
    by true h rest = subst (Contains (x ∷ bodies)) (some_same x r h) (Contains-append_left (x ∷ []) bodies x (0, omega arith, refl))
    by false h rest = Contains-append_right (x ∷ []) bodies r (rest h)

pub lacks_id : (id : ℕ) (bodies : List BodyPart) → list_any (has_number body_part_key id) bodies ≡ false → row_at body_part_key (number_key id) bodies ≡ None
lacks_id id [] e = refl
lacks_id id (x ∷ bodies) e = by (x.id == id) e (λ h. lacks_id id bodies h)
  where
    by : (b : Bool) → (b || list_any (has_number body_part_key id) bodies) ≡ false → (list_any (has_number body_part_key id) bodies ≡ false → row_at body_part_key (number_key id) bodies ≡ None)
        → cond b (Some x) (row_at body_part_key (number_key id) bodies) ≡ None
    by true h rest = absurd (true≢false h)
    by false h rest = rest h

module _ (placed : List BodyPart) (new : BodyPart) where
  joined : (k : RowKey) → row_at body_part_key k (placed ++ new ∷ []) ≡ option_or (row_at body_part_key k placed) (row_at body_part_key k (new ∷ []))
  joined k = find-append (has_key body_part_key k) placed (new ∷ [])

  last_is : row_at body_part_key (number_key new.id) placed ≡ None → row_at body_part_key (number_key new.id) (placed ++ new ∷ []) ≡ Some new
  last_is none =
      let here : row_at body_part_key (number_key new.id) (new ∷ []) ≡ Some new = ap (λ b. cond b (Some new) None) (eq-eqb new.id new.id refl) in
      joined (number_key new.id) ∙ ap (λ o. option_or o (row_at body_part_key (number_key new.id) (new ∷ []))) none ∙ here

  last_others : (k : RowKey) → same_key (body_part_key new) k ≡ false → row_at body_part_key k (placed ++ new ∷ []) ≡ row_at body_part_key k placed
  last_others k q = joined k ∙ ap (λ b. option_or (row_at body_part_key k placed) (cond b (Some new) None)) q ∙ or_none (row_at body_part_key k placed)
    where
      or_none : (o : Option BodyPart) → option_or o None ≡ o
      or_none None = refl
      or_none (Some x) = refl

  the_one : (body : BodyPart) → Contains (new ∷ []) body → new ≡ body
  the_one body (zero, lt, e) = e
  the_one body (suc k, lt, e) = absurd (omega (arith, lt))

  pub ids_grown : HaveIds placed → row_at body_part_key (number_key new.id) placed ≡ None → HaveIds (placed ++ new ∷ [])
  ids_grown ids none body c = by (Contains-append_cases placed (new ∷ []) body c)
    where
      by : Contains placed body ⊎ Contains (new ∷ []) body → row_at body_part_key (number_key body.id) (placed ++ new ∷ []) ≡ Some body
      by (inl there) = joined (number_key body.id) ∙ ap (λ o. option_or o (row_at body_part_key (number_key body.id) (new ∷ []))) (ids body there)
      by (inr last) = subst (λ (b : BodyPart). row_at body_part_key (number_key b.id) (placed ++ new ∷ []) ≡ Some b) (the_one body last) (last_is none)

-- ---- a body that has the bytes

has_bytes : (rows : List BodyPart) (body : BodyPart) (id : ℕ) (bytes : List ℕ) → row_at body_part_key (number_key body.id) rows ≡ Some body → body.id ≡ id → BodyHasBytes in_row body bytes → RowHasBytes rows id bytes
has_bytes rows body id bytes e at has =
    let here : row_at body_part_key (number_key id) rows ≡ Some body = subst (λ i. row_at body_part_key (number_key i) rows ≡ Some body) at e in
    (ap (option_map (λ (r : BodyPart). r.content)) here ∙ ap Some has.0, ap (option_map (λ (r : BodyPart). r.digest)) here ∙ ap Some has.1)

-- the body that is found by an id with the bytes
body_at : (rows : List BodyPart) (id : ℕ) (bytes : List ℕ) → RowHasBytes rows id bytes → (r : BodyPart) × (row_at body_part_key (number_key id) rows ≡ Some r) × (r.id ≡ id) × BodyHasBytes in_row r bytes
body_at rows id bytes h =
    let it = mapped_some (λ (r : BodyPart). r.content) (row_at body_part_key (number_key id) rows) bytes h.0 in
    let digest : it.0.digest ≡ sha256 bytes = some_same it.0.digest (sha256 bytes) (sym (ap (option_map (λ (r : BodyPart). r.digest)) it.1) ∙ h.1) in
    (it.0, it.1, eqb-true it.0.id id (find_passes (has_key body_part_key (number_key id)) rows it.0 it.1), (it.2, digest))

module _ (rows placed : List BodyPart) (bytes : List ℕ) (lacking : (other : BodyPart) → IsThere rows placed other → BodyHasBytes in_row other bytes → ⊥) where
  rows_lack : LacksBytes rows bytes
  rows_lack id h = let it = body_at rows id bytes h in lacking it.0 (inl (subst (λ i. row_at body_part_key (number_key i) rows ≡ Some it.0) (sym it.2) it.1)) it.3

  placed_lack : LacksBytes placed bytes
  placed_lack id h = let it = body_at placed id bytes h in lacking it.0 (inr (found_in (has_key body_part_key (number_key id)) placed it.0 it.1)) it.3

module _ (message : ℕ) (t : TableRows) (laws : RowLaws) where
  pub body_found : (now added : TableRows) (placed : List BodyPart) (bytes : List ℕ) (id : ℕ) → Between message t (holding added placed) now → HaveIds placed
      → ((body : BodyPart) × IsThere t.shared.bodyparts placed body × (body.id ≡ id) × BodyHasBytes in_row body bytes) → RowHasBytes now.shared.bodyparts id bytes
  body_found now added placed bytes id b ids it = by it.1
    where
      by : IsThere t.shared.bodyparts placed it.0 → RowHasBytes now.shared.bodyparts id bytes
      by (inl e) = body_first message t laws now (holding added placed) bytes id b (has_bytes t.shared.bodyparts it.0 id bytes e it.2 it.3)
      by (inr c) = body_second message t laws now (holding added placed) bytes id b (has_bytes placed it.0 id bytes (ids it.0 c) it.2 it.3)

  abbrev both_of : BodyPart → List ℕ × List ℕ
  both_of r = (r.content, r.digest)

  read_both : (rows : List BodyPart) (id : ℕ) (bytes digest : List ℕ) → option_map both_of (row_at body_part_key (number_key id) rows) ≡ Some (bytes, digest)
      → (option_map (λ (r : BodyPart). r.content) (row_at body_part_key (number_key id) rows) ≡ Some bytes) × (option_map (λ (r : BodyPart). r.digest) (row_at body_part_key (number_key id) rows) ≡ Some digest)
  read_both rows id bytes digest h =
      let it = mapped_some both_of (row_at body_part_key (number_key id) rows) (bytes, digest) h in
      (ap (option_map (λ (r : BodyPart). r.content)) it.1 ∙ ap Some (ap (λ (x : List ℕ × List ℕ). x.0) it.2), ap (option_map (λ (r : BodyPart). r.digest)) it.1 ∙ ap Some (ap (λ (x : List ℕ × List ℕ). x.1) it.2))

  as_both : (rows : List BodyPart) (id : ℕ) (bytes : List ℕ) → RowHasBytes rows id bytes → option_map both_of (row_at body_part_key (number_key id) rows) ≡ Some (bytes, sha256 bytes)
  as_both rows id bytes h = let it = body_at rows id bytes h in ap (option_map both_of) it.1 ∙ ap (λ x. Some (x, it.0.digest)) it.3.0 ∙ ap (λ x. Some (bytes, x)) it.3.1

  pub body_added : (now added : TableRows) (placed : List BodyPart) (changes changes_after : List RowChange) (bytes : List ℕ) (new : BodyPart) → Between message t (holding added placed) now → IsText bytes
      → IsNewBody in_row t.shared.bodyparts placed bytes new → changes_after ≡ changes ++ InsertBodyPart new ∷ []
      → Leads message t now (holding added placed) changes Nowhere (λ after. RowHasBytes after.shared.bodyparts new.id bytes) (holding added (placed ++ new ∷ [])) changes_after
  body_added now added placed changes changes_after bytes new b text is e =
      let free = lacks_id new.id placed is.not_placed in
      let now_lacks : LacksBytes now.shared.bodyparts bytes = λ i h. lacks_both body_part_key both_of t.shared.bodyparts placed now.shared.bodyparts b.bodies (bytes, sha256 bytes)
      (λ j k. rows_lack t.shared.bodyparts placed bytes is.lacking j (read_both t.shared.bodyparts j bytes (sha256 bytes) k)) (λ j k. placed_lack t.shared.bodyparts placed bytes is.lacking j (read_both placed j bytes (sha256 bytes) k)) i (as_both now.shared.bodyparts i bytes h) in
      let fits : Fits now (InsertBodyPart new) = (subst IsText (sym is.has.0) text, b.bodies.neither new.id is.no_row free) in
      let suits : Suits message now (InsertBodyPart new) = (is.has.1 ∙ ap sha256 (sym is.has.0), subst (LacksBytes now.shared.bodyparts) (sym is.has.0) now_lacks) in
      record {
        after = applied now (InsertBodyPart new);
        more = InsertBodyPart new ∷ [];
        grown = e;
        made = (fits, suits, refl);
        within = (tt, tt);
        between = record {
          ordered = laws.order now (InsertBodyPart new) b.ordered fits;
          closed = laws.closed now (InsertBodyPart new) b.closed fits;
          there = b.there;
          names = b.names;
          addresses = b.addresses;
          bodies = union_grown body_part_key (same_keys laws) laws.bodyparts new t.shared.bodyparts placed (placed ++ new ∷ []) now.shared.bodyparts is.no_row (last_is placed new free) (last_others placed new) b.bodies;
        };
        holds = has_bytes (with_row body_part_key new now.shared.bodyparts) new new.id bytes (laws.bodyparts.same new now.shared.bodyparts) refl is.has;
      }

  -- ---- the bodies of all changes

  row_kept : (id : ℕ) (row : BodyPart) (u : TableRows) (change : RowChange) → Fits u change → Suits message u change → row_at body_part_key (number_key id) u.shared.bodyparts ≡ Some row → row_at body_part_key (number_key id) (applied u change).shared.bodyparts ≡ Some row
  row_kept id row u (InsertMessageRow r) fits suits h = h
  row_kept id row u (InsertBodyPart r) fits suits h = by (same_key (body_part_key r) (number_key id)) refl
    where
      by : (b : Bool) → same_key (body_part_key r) (number_key id) ≡ b → row_at body_part_key (number_key id) (with_row body_part_key r u.shared.bodyparts) ≡ Some row
      by true q = absurd (some_none row (sym h ∙ subst (λ k. row_at body_part_key k u.shared.bodyparts ≡ None) (laws.same (body_part_key r) (number_key id) q) fits.1))
      by false q = laws.bodyparts.other r (number_key id) u.shared.bodyparts q ∙ h
  row_kept id row u (InsertPartNumber r) fits suits h = h
  row_kept id row u (InsertFieldName r) fits suits h = h
  row_kept id row u (InsertHeaderField r) fits suits h = h
  row_kept id row u (InsertAddressRow r) fits suits h = h
  row_kept id row u (InsertAddressField r) fits suits h = h
  row_kept id row u (InsertDateField r) fits suits h = h
  row_kept id row u (InsertMessageId r) fits suits h = h
  row_kept id row u (InsertUnparsedMessage r) fits suits h = h
  row_kept id row u _ fits suits h = absurd suits

  row_along : (id : ℕ) (row : BodyPart) (u : TableRows) (changes : List RowChange) (after : TableRows) → Makes message u changes after → row_at body_part_key (number_key id) u.shared.bodyparts ≡ Some row → row_at body_part_key (number_key id) after.shared.bodyparts ≡ Some row
  row_along id row u [] after e h = subst (λ (v : TableRows). row_at body_part_key (number_key id) v.shared.bodyparts ≡ Some row) e h
  row_along id row u (change ∷ changes) after made h = row_along id row (applied u change) changes after made.2 (row_kept id row u change made.0 made.1 h)

  abbrev Stay : TableRows → Type 0
  Stay u = (id : ℕ) (row : BodyPart) → row_at body_part_key (number_key id) t.shared.bodyparts ≡ Some row → row_at body_part_key (number_key id) u.shared.bodyparts ≡ Some row

  module _ (placed : List BodyPart) (after : TableRows) (union : IsUnion body_part_key t.shared.bodyparts placed after.shared.bodyparts) where
    one_placed : (u : TableRows) (change : RowChange) (changes : List RowChange) → Stay u → Fits u change → Suits message u change → Makes message (applied u change) changes after → IsPlaced placed change
    one_placed u (InsertMessageRow r) changes stay fits suits made = tt
    one_placed u (InsertBodyPart r) changes stay fits suits made = by (row_at body_part_key (number_key r.id) placed) refl
      where
        at : row_at body_part_key (number_key r.id) after.shared.bodyparts ≡ Some r
        at = row_along r.id r (applied u (InsertBodyPart r)) changes after made (laws.bodyparts.same r u.shared.bodyparts)

        none : (o : Option BodyPart) → row_at body_part_key (number_key r.id) t.shared.bodyparts ≡ o → o ≡ None
        none None e = refl
        none (Some q) e = absurd (some_none q (sym (stay r.id q e) ∙ fits.1))

        by : (o : Option BodyPart) → row_at body_part_key (number_key r.id) placed ≡ o → Contains placed r
        by None e = absurd (some_none r (sym at ∙ union.neither r.id (none (row_at body_part_key (number_key r.id) t.shared.bodyparts) refl) e))
        by (Some q) e = subst (Contains placed) (some_same q r (sym (union.second r.id q e) ∙ at)) (found_in (has_key body_part_key (number_key r.id)) placed q e)
    one_placed u (InsertPartNumber r) changes stay fits suits made = tt
    one_placed u (InsertFieldName r) changes stay fits suits made = tt
    one_placed u (InsertHeaderField r) changes stay fits suits made = tt
    one_placed u (InsertAddressRow r) changes stay fits suits made = tt
    one_placed u (InsertAddressField r) changes stay fits suits made = tt
    one_placed u (InsertDateField r) changes stay fits suits made = tt
    one_placed u (InsertMessageId r) changes stay fits suits made = tt
    one_placed u (InsertUnparsedMessage r) changes stay fits suits made = tt
    one_placed u _ changes stay fits suits made = absurd suits

    pub all_placed : (u : TableRows) (changes : List RowChange) → Stay u → Makes message u changes after → ArePlaced placed changes
    all_placed u [] stay made = tt
    all_placed u (change ∷ changes) stay made =
        (one_placed u change changes stay made.0 made.1 made.2, all_placed (applied u change) changes (λ id row e. row_kept id row u change made.0 made.1 (stay id row e)) made.2)
