-- Steps of a list of changes that adds a message.
use Rattle.std.proofs.Common.{◌≡◌, ℕ, Bool, true, false, List, [], ◌∷◌, ◌++◌, Some, None, IsSome, is_some, refl, sym, ap, ◌∙◌, subst}
use Rattle.std.proofs.lemmas.List.{append-nil, append_assoc}
use Rattle.std.specs.Option.{option_map}
use Rattle.std.specs.List.{AllByRecursion}
use Rattle.sha2.specs.Sha256.{sha256}
use Rattle.ordered_rows.specs.RowKey.{same_key, number_key}
use Rattle.ordered_rows.specs.Listed.{IsInOrder, row_at, with_row}
use Rattle.row_tables.specs.Keys.{message_key, body_part_key, field_name_key, address_key}
use Rattle.row_tables.specs.Indexes.{has_name, field_name_id, address_id}
use Rattle.row_tables.specs.TableRows.{TableRows}
use Rattle.row_tables.specs.References.{AreOrdered, AreClosed, HasMessage}
use Rattle.row_tables.specs.Fits.{IsText, Fits, applied}
use Rattle.row_tables.specs.declared.contents.BodyPart.{BodyPart}
use Rattle.row_tables.specs.declared.contents.FieldName.{FieldName}
use Rattle.row_tables.specs.declared.contents.AddressRow.{AddressRow}
use Rattle.row_tables.specs.declared.change.RowChange.{RowChange}
use Rattle.row_tables.specs.declared.change.RowChange.TheVariants.{InsertMessageRow, InsertBodyPart, InsertPartNumber, InsertFieldName, InsertHeaderField, InsertAddressRow, InsertAddressField, InsertDateField, InsertMessageId, InsertUnparsedMessage}
use Rattle.shredder.specs.MessageRows.{AddressTexts, texts_in, HasName, HasAddress}
use Rattle.row_store.specs.Holding.{stored_by, in_row}
use Rattle.shredder.specs.Distinct.{Keeps}
use Rattle.shredder.specs.Shredding.{SameAt}
use Rattle.shredder.specs.Making.{RowLaws, RowHasBytes, IsUnion, Suits, Makes, IsAt, Nowhere, Between, Leads}
use Rattle.shredder.proofs.Lookups.{Lacks, found, lacking, finds_none, reads_first, reads_second, lacks_both, union_more}
use Rattle.shredder.proofs.Frames.{same_keys, makes_then, all_joined, all_mapped, at_more, keeps_along, same_along, elsewhere, has_texts, texts_sound, texts_complete, name_sound, name_complete}

-- ---- the message stays there, and the tables whole

message_kept : (laws : RowLaws) (message : ℕ) (t : TableRows) (change : RowChange) → Suits message t change → HasMessage t message → HasMessage (applied t change) message
message_kept laws message t (InsertMessageRow r) suits h = by (same_key (message_key r) (number_key message)) refl
  where
    by : (b : Bool) → same_key (message_key r) (number_key message) ≡ b → IsSome (row_at message_key (number_key message) (with_row message_key r t.mails.messages))
    by true q = subst (λ k. IsSome (row_at message_key k (with_row message_key r t.mails.messages))) (laws.same (message_key r) (number_key message) q) (ap is_some (laws.messages.same r t.mails.messages))
    by false q = ap is_some (laws.messages.other r (number_key message) t.mails.messages q) ∙ h
message_kept laws message t (InsertBodyPart r) suits h = h
message_kept laws message t (InsertPartNumber r) suits h = h
message_kept laws message t (InsertFieldName r) suits h = h
message_kept laws message t (InsertHeaderField r) suits h = h
message_kept laws message t (InsertAddressRow r) suits h = h
message_kept laws message t (InsertAddressField r) suits h = h
message_kept laws message t (InsertDateField r) suits h = h
message_kept laws message t (InsertMessageId r) suits h = h
message_kept laws message t (InsertUnparsedMessage r) suits h = h
message_kept laws message t _ suits h = absurd suits

pub ordered_along : (laws : RowLaws) (message : ℕ) (t : TableRows) (changes : List RowChange) (after : TableRows) → AreOrdered t → Makes message t changes after → AreOrdered after
ordered_along laws message t [] after o e = subst AreOrdered e o
ordered_along laws message t (change ∷ changes) after o h = ordered_along laws message (applied t change) changes after (laws.order t change o h.0) h.2

pub closed_along : (laws : RowLaws) (message : ℕ) (t : TableRows) (changes : List RowChange) (after : TableRows) → AreClosed t → Makes message t changes after → AreClosed after
closed_along laws message t [] after c e = subst AreClosed e c
closed_along laws message t (change ∷ changes) after c h = closed_along laws message (applied t change) changes after (laws.closed t change c h.0) h.2

message_along : (laws : RowLaws) (message : ℕ) (t : TableRows) (changes : List RowChange) (after : TableRows) → HasMessage t message → Makes message t changes after → HasMessage after message
message_along laws message t [] after m e = subst (λ u. HasMessage u message) e m
message_along laws message t (change ∷ changes) after m h = message_along laws message (applied t change) changes after (message_kept laws message t change h.1 m) h.2

-- ---- steps

module _ (message : ℕ) (t : TableRows) where
  pub leads_none : (now added : TableRows) (changes : List RowChange) (W : List ℕ → Type 0) (P : TableRows → Type 0) → Between message t added now → P now → Leads message t now added changes W P added changes
  leads_none now added changes W P b p = record { after = now; more = []; grown = sym (append-nil changes); made = refl; within = tt; between = b; holds = p }

  pub leads_then : (now added0 added1 added2 : TableRows) (changes0 changes1 changes2 : List RowChange) (W V U : List ℕ → Type 0) (P Q : TableRows → Type 0) → ((path : List ℕ) → W path → U path) → ((path : List ℕ) → V path → U path)
      → (a : Leads message t now added0 changes0 W P added1 changes1) → Leads message t a.after added1 changes1 V Q added2 changes2 → Leads message t now added0 changes0 U Q added2 changes2
  leads_then now added0 added1 added2 changes0 changes1 changes2 W V U P Q f g a b = record {
    after = b.after;
    more = a.more ++ b.more;
    grown = b.grown ∙ ap (λ l. l ++ b.more) a.grown ∙ append_assoc changes0 a.more b.more;
    made = makes_then message now a.more b.more a.after b.after a.made b.made;
    within = all_joined (IsAt U) a.more b.more (all_mapped (IsAt W) (IsAt U) (at_more W U f) a.more a.within) (all_mapped (IsAt V) (IsAt U) (at_more V U g) b.more b.within);
    between = b.between;
    holds = b.holds;
  }

  pub leads_so : (now added0 added1 : TableRows) (changes0 changes1 : List RowChange) (W U : List ℕ → Type 0) (P Q : TableRows → Type 0) → ((path : List ℕ) → W path → U path) → (a : Leads message t now added0 changes0 W P added1 changes1) → Q a.after
      → Leads message t now added0 changes0 U Q added1 changes1
  leads_so now added0 added1 changes0 changes1 W U P Q f a q = record {
    after = a.after;
    more = a.more;
    grown = a.grown;
    made = a.made;
    within = all_mapped (IsAt W) (IsAt U) (at_more W U f) a.more a.within;
    between = a.between;
    holds = q;
  }

  module _ (laws : RowLaws) where
    pub leads_keeps : (now added0 added1 : TableRows) (changes0 changes1 : List RowChange) (W : List ℕ → Type 0) (P : TableRows → Type 0) → Between message t added0 now → (a : Leads message t now added0 changes0 W P added1 changes1) → Keeps (stored_by in_row now) (stored_by in_row a.after)
    leads_keeps now added0 added1 changes0 changes1 W P b a = keeps_along laws message now a.more a.after b.ordered a.made

    pub leads_same : (now added0 added1 : TableRows) (changes0 changes1 : List RowChange) (W : List ℕ → Type 0) (P : TableRows → Type 0) → Between message t added0 now → (a : Leads message t now added0 changes0 W P added1 changes1) → (path : List ℕ) → (W path → ⊥)
        → SameAt message path now a.after
    leads_same now added0 added1 changes0 changes1 W P b a path n = same_along laws message message path now a.more a.after b.ordered (all_mapped (IsAt W) _ (elsewhere W message path n) a.more a.within) a.made

    -- changes that leave alone what messages share
    pub leads_own : (now added : TableRows) (changes more changes_after : List RowChange) (after : TableRows) (W : List ℕ → Type 0) (P : TableRows → Type 0) → Between message t added now → changes_after ≡ changes ++ more → Makes message now more after → AllByRecursion (IsAt W) more
        → after.shared ≡ now.shared → P after → Leads message t now added changes W P added changes_after
    leads_own now added changes more changes_after after W P b e made within shared p = record {
      after = after;
      more = more;
      grown = e;
      made = made;
      within = within;
      between = record {
        ordered = ordered_along laws message now more after b.ordered made;
        closed = closed_along laws message now more after b.closed made;
        there = message_along laws message now more after b.there made;
        names = subst (λ s. IsUnion field_name_key t.shared.field_names added.shared.field_names s.field_names) (sym shared) b.names;
        addresses = subst (λ s. IsUnion address_key t.shared.addresses added.shared.addresses s.addresses) (sym shared) b.addresses;
        bodies = subst (λ s. IsUnion body_part_key t.shared.bodyparts added.shared.bodyparts s.bodyparts) (sym shared) b.bodies;
      };
      holds = p;
    }

    -- ---- names

    pub name_first : (now added : TableRows) (name : List ℕ) (id : ℕ) → AreOrdered t → Between message t added now → field_name_id name t.shared.field_names ≡ Some id → HasName now.shared.field_names id name
    name_first now added name id o b e =
        reads_first field_name_key (λ r. r.name) t.shared.field_names added.shared.field_names now.shared.field_names b.names id name
        (found field_name_key (λ r. r.name) laws.field_names has_name name_sound name_complete (λ r. r.id) (λ r. refl) t.shared.field_names name id o.field_names e)

    pub name_second : (now added : TableRows) (name : List ℕ) (id : ℕ) → IsInOrder field_name_key added.shared.field_names → Between message t added now → field_name_id name added.shared.field_names ≡ Some id → HasName now.shared.field_names id name
    name_second now added name id o b e =
        reads_second field_name_key (λ r. r.name) t.shared.field_names added.shared.field_names now.shared.field_names b.names id name
        (found field_name_key (λ r. r.name) laws.field_names has_name name_sound name_complete (λ r. r.id) (λ r. refl) added.shared.field_names name id o e)

    pub name_added : (now added : TableRows) (changes changes_after : List RowChange) (name : List ℕ) (id : ℕ) → Between message t added now → IsText name → field_name_id name t.shared.field_names ≡ None → field_name_id name added.shared.field_names ≡ None
        → row_at field_name_key (number_key id) t.shared.field_names ≡ None → row_at field_name_key (number_key id) added.shared.field_names ≡ None → changes_after ≡ changes ++ InsertFieldName (record { id = id; name = name }) ∷ []
        → Leads message t now added changes Nowhere (λ after. HasName after.shared.field_names id name) (applied added (InsertFieldName (record { id = id; name = name }))) changes_after
    name_added now added changes changes_after name id b text none none_added free free_added e =
        let new : FieldName = record { id = id; name = name } in
        let lacks : Lacks field_name_key (λ (r : FieldName). r.name) now.shared.field_names name = lacks_both field_name_key (λ (r : FieldName). r.name) t.shared.field_names added.shared.field_names now.shared.field_names b.names name
        (lacking field_name_key (λ (r : FieldName). r.name) laws.field_names has_name name_sound name_complete (λ r. r.id) (λ r. refl) t.shared.field_names name none)
        (lacking field_name_key (λ (r : FieldName). r.name) laws.field_names has_name name_sound name_complete (λ r. r.id) (λ r. refl) added.shared.field_names name none_added) in
        let fits : Fits now (InsertFieldName new) = (text, b.names.neither id free free_added, finds_none field_name_key (λ (r : FieldName). r.name) laws.field_names has_name name_sound name_complete (λ r. r.id) (λ r. refl) now.shared.field_names name b.ordered.field_names lacks) in
        record {
          after = applied now (InsertFieldName new);
          more = InsertFieldName new ∷ [];
          grown = e;
          made = (fits, tt, refl);
          within = (tt, tt);
          between = record {
            ordered = laws.order now (InsertFieldName new) b.ordered fits;
            closed = laws.closed now (InsertFieldName new) b.closed fits;
            there = b.there;
            names = union_more field_name_key (same_keys laws) laws.field_names new t.shared.field_names added.shared.field_names now.shared.field_names free b.names;
            addresses = b.addresses;
            bodies = b.bodies;
          };
          holds = ap (option_map (λ (r : FieldName). r.name)) (laws.field_names.same new now.shared.field_names);
        }

    -- ---- addresses

    pub address_first : (now added : TableRows) (texts : AddressTexts) (id : ℕ) → AreOrdered t → Between message t added now → address_id texts.name texts.local texts.domain t.shared.addresses ≡ Some id → HasAddress now.shared.addresses id texts
    address_first now added texts id o b e =
        reads_first address_key texts_in t.shared.addresses added.shared.addresses now.shared.addresses b.addresses id texts
        (found address_key texts_in laws.addresses has_texts texts_sound texts_complete (λ r. r.id) (λ r. refl) t.shared.addresses texts id o.addresses e)

    pub address_second : (now added : TableRows) (texts : AddressTexts) (id : ℕ) → IsInOrder address_key added.shared.addresses → Between message t added now → address_id texts.name texts.local texts.domain added.shared.addresses ≡ Some id → HasAddress now.shared.addresses id texts
    address_second now added texts id o b e =
        reads_second address_key texts_in t.shared.addresses added.shared.addresses now.shared.addresses b.addresses id texts
        (found address_key texts_in laws.addresses has_texts texts_sound texts_complete (λ r. r.id) (λ r. refl) added.shared.addresses texts id o e)

    pub address_added : (now added : TableRows) (changes changes_after : List RowChange) (texts : AddressTexts) (id : ℕ) → Between message t added now → IsText texts.name → IsText texts.local → IsText texts.domain
        → address_id texts.name texts.local texts.domain t.shared.addresses ≡ None → address_id texts.name texts.local texts.domain added.shared.addresses ≡ None
        → row_at address_key (number_key id) t.shared.addresses ≡ None → row_at address_key (number_key id) added.shared.addresses ≡ None
        → changes_after ≡ changes ++ InsertAddressRow (record { id = id; name = texts.name; local = texts.local; domain = texts.domain }) ∷ []
        → Leads message t now added changes Nowhere (λ after. HasAddress after.shared.addresses id texts) (applied added (InsertAddressRow (record { id = id; name = texts.name; local = texts.local; domain = texts.domain }))) changes_after
    address_added now added changes changes_after texts id b name local domain none none_added free free_added e =
        let new : AddressRow = record { id = id; name = texts.name; local = texts.local; domain = texts.domain } in
        let lacks : Lacks address_key texts_in now.shared.addresses texts = lacks_both address_key texts_in t.shared.addresses added.shared.addresses now.shared.addresses b.addresses texts
        (lacking address_key texts_in laws.addresses has_texts texts_sound texts_complete (λ r. r.id) (λ r. refl) t.shared.addresses texts none)
        (lacking address_key texts_in laws.addresses has_texts texts_sound texts_complete (λ r. r.id) (λ r. refl) added.shared.addresses texts none_added) in
        let fits : Fits now (InsertAddressRow new) = (name, local, domain, b.addresses.neither id free free_added, finds_none address_key texts_in laws.addresses has_texts texts_sound texts_complete (λ r. r.id) (λ r. refl) now.shared.addresses texts b.ordered.addresses lacks) in
        record {
          after = applied now (InsertAddressRow new);
          more = InsertAddressRow new ∷ [];
          grown = e;
          made = (fits, tt, refl);
          within = (tt, tt);
          between = record {
            ordered = laws.order now (InsertAddressRow new) b.ordered fits;
            closed = laws.closed now (InsertAddressRow new) b.closed fits;
            there = b.there;
            names = b.names;
            addresses = union_more address_key (same_keys laws) laws.addresses new t.shared.addresses added.shared.addresses now.shared.addresses free b.addresses;
            bodies = b.bodies;
          };
          holds = ap (option_map texts_in) (laws.addresses.same new now.shared.addresses);
        }

    -- ---- bodies

    pub body_first : (now added : TableRows) (bytes : List ℕ) (id : ℕ) → Between message t added now → RowHasBytes t.shared.bodyparts id bytes → RowHasBytes now.shared.bodyparts id bytes
    body_first now added bytes id b h = (
      reads_first body_part_key (λ (r : BodyPart). r.content) t.shared.bodyparts added.shared.bodyparts now.shared.bodyparts b.bodies id bytes h.0,
      reads_first body_part_key (λ (r : BodyPart). r.digest) t.shared.bodyparts added.shared.bodyparts now.shared.bodyparts b.bodies id (sha256 bytes) h.1,
    )

    pub body_second : (now added : TableRows) (bytes : List ℕ) (id : ℕ) → Between message t added now → RowHasBytes added.shared.bodyparts id bytes → RowHasBytes now.shared.bodyparts id bytes
    body_second now added bytes id b h = (
      reads_second body_part_key (λ (r : BodyPart). r.content) t.shared.bodyparts added.shared.bodyparts now.shared.bodyparts b.bodies id bytes h.0,
      reads_second body_part_key (λ (r : BodyPart). r.digest) t.shared.bodyparts added.shared.bodyparts now.shared.bodyparts b.bodies id (sha256 bytes) h.1,
    )
