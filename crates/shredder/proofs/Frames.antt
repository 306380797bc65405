-- What changes leave as it was.
use Rattle.std.proofs.Common.{◌≡◌, ◌≢◌, ◌⊎◌, ℕ, Bool, true, false, cond, ◌&&◌, ◌==◌, nat_eq, List, [], ◌∷◌, ◌++◌, Some, refl, sym, ap, ◌∙◌, subst, inl, inr}
use borrow.Author.Tests.{eqb-true}
use Rattle.std.proofs.lemmas.Bool.{and_parts, and_from}
use Rattle.std.specs.Option.{option_map}
use Rattle.std.specs.List.{AllByRecursion, filter}
use Rattle.std.specs.Cmp.Lexicographic.{pointwise, bytes_decides}
use Rattle.sha2.specs.Sha256.{sha256}
use Rattle.ordered_rows.specs.RowKey.{RowKey, same_key, number_key}
use Rattle.ordered_rows.specs.Listed.{row_at, with_row}
use Rattle.row_tables.specs.Keys.{part_key, field_key, message_key, body_part_key, part_number_key, field_name_key, header_field_key, address_key, date_field_key, unparsed_message_key}
use Rattle.row_tables.specs.Indexes.{has_name, has_address}
use Rattle.row_tables.specs.TableRows.{TableRows, SharedRows}
use Rattle.row_tables.specs.References.{AreOrdered, fields_at}
use Rattle.row_tables.specs.Fits.{Fits, applied, Runs}
use Rattle.row_tables.specs.declared.mails.HeaderField.{HeaderField}
use Rattle.row_tables.specs.declared.contents.BodyPart.{BodyPart}
use Rattle.row_tables.specs.declared.contents.FieldName.{FieldName}
use Rattle.row_tables.specs.declared.contents.AddressRow.{AddressRow}
use Rattle.row_tables.specs.declared.change.RowChange.{RowChange}
use Rattle.row_tables.specs.declared.change.RowChange.TheVariants.{InsertMessageRow, InsertBodyPart, InsertPartNumber, InsertFieldName, InsertHeaderField, InsertAddressRow, InsertAddressField, InsertDateField, InsertMessageId, InsertUnparsedMessage}
use Rattle.row_store.specs.Holding.{Stored, stored_by, in_row}
use Rattle.shredder.specs.MessageRows.{AddressTexts, texts_in, HasName, HasAddress, HasContent, HasBytes}
use Rattle.shredder.specs.Distinct.{AreDistinct, Keeps}
use Rattle.shredder.specs.Shredding.{SameAt, SameMessage}
use Rattle.shredder.specs.Making.{RowLaws, RowHasBytes, Suits, Makes, IsAt, SameValues}
use Rattle.shredder.proofs.Lookups.{SameKeys, kept, read_now, still_apart, lacking}

pub same_keys : RowLaws → SameKeys
same_keys laws = record { same = laws.same }

-- ---- along all changes

pub makes_then : (message : ℕ) (t : TableRows) (changes more : List RowChange) (middle after : TableRows) → Makes message t changes middle → Makes message middle more after → Makes message t (changes ++ more) after
makes_then message t [] more middle after e r = subst (λ u. Makes message u more after) (sym e) r
makes_then message t (change ∷ changes) more middle after h r = (h.0, h.1, makes_then message (applied t change) changes more middle after h.2 r)

pub makes_runs : (message : ℕ) (t : TableRows) (changes : List RowChange) (after : TableRows) → Makes message t changes after → Runs t changes after
makes_runs message t [] after e = e
makes_runs message t (change ∷ changes) after h = (h.0, makes_runs message (applied t change) changes after h.2)

pub all_joined : {X : Type 0} (P : X → Type 0) (xs ys : List X) → AllByRecursion P xs → AllByRecursion P ys → AllByRecursion P (xs ++ ys)
all_joined P [] ys h k = k
all_joined P (x ∷ xs) ys h k = (h.0, all_joined P xs ys h.1 k)

pub all_mapped : {X : Type 0} (P Q : X → Type 0) → ((x : X) → P x → Q x) → (xs : List X) → AllByRecursion P xs → AllByRecursion Q xs
all_mapped P Q f [] h = tt
all_mapped P Q f (x ∷ xs) h = (f x h.0, all_mapped P Q f xs h.1)

pub at_more : (P Q : List ℕ → Type 0) → ((path : List ℕ) → P path → Q path) → (change : RowChange) → IsAt P change → IsAt Q change
at_more P Q f (InsertMessageRow r) h = h
at_more P Q f (InsertBodyPart r) h = tt
at_more P Q f (InsertPartNumber r) h = f r.path h
at_more P Q f (InsertFieldName r) h = tt
at_more P Q f (InsertHeaderField r) h = f r.path h
at_more P Q f (InsertAddressRow r) h = tt
at_more P Q f (InsertAddressField r) h = f r.path h
at_more P Q f (InsertDateField r) h = f r.path h
at_more P Q f (InsertMessageId r) h = f r.path h
at_more P Q f (InsertUnparsedMessage r) h = h
at_more P Q f _ h = absurd h

-- what each change that fits keeps is kept by all of them
module _ (laws : RowLaws) (message : ℕ) (R : TableRows → TableRows → Type 0) (itself : (t : TableRows) → R t t) (then : (t u v : TableRows) → R t u → R u v → R t v) (P : RowChange → Type 0)
    (step : (t : TableRows) (change : RowChange) → AreOrdered t → Fits t change → Suits message t change → P change → R t (applied t change)) where
  pub along : (t : TableRows) (changes : List RowChange) (after : TableRows) → AreOrdered t → AllByRecursion P changes → Makes message t changes after → R t after
  along t [] after ordered all e = subst (λ u. R t u) e (itself t)
  along t (change ∷ changes) after ordered all h =
      then t (applied t change) after (step t change ordered h.0 h.1 all.0) (along (applied t change) changes after (laws.order t change ordered h.0) all.1 h.2)

-- ---- the rows at one path

pub not_true : (b : Bool) → (b ≡ true → ⊥) → b ≡ false
not_true true h = absurd (h refl)
not_true false h = refl

key_differs : (laws : RowLaws) (a b : RowKey) → (a ≡ b → ⊥) → same_key a b ≡ false
key_differs laws a b n = not_true (same_key a b) (λ e. n (laws.same a b e))

filter_both : {X : Type 0} (f g : X → Bool) (xs : List X) → filter f (filter g xs) ≡ filter (λ x. g x && f x) xs
filter_both f g [] = refl
filter_both {X} f g (x ∷ xs) = by (g x) (filter_both f g xs)
  where
    by : (a : Bool) → filter f (filter g xs) ≡ filter (λ x. g x && f x) xs → filter f (cond a (x ∷ filter g xs) (filter g xs)) ≡ cond (a && f x) (x ∷ filter (λ x. g x && f x) xs) (filter (λ x. g x && f x) xs)
    by true e = ap (λ l. cond (f x) (x ∷ l) l) e
    by false e = e

abbrev pub is_field_at : ℕ → List ℕ → HeaderField → Bool
is_field_at message path r = (r.message == message) && pointwise nat_eq r.path path

pub fields_by_test : (message : ℕ) (path : List ℕ) (rows : List HeaderField) → fields_at message path rows ≡ filter (is_field_at message path) rows
fields_by_test message path rows = filter_both (λ r. pointwise nat_eq r.path path) (λ r. r.message == message) rows

-- the test of a row at another place fails
pair_fails : (number message : ℕ) (text path : List ℕ) → ((number ≡ message) → (text ≡ path) → ⊥) → ((number == message) && pointwise nat_eq text path) ≡ false
pair_fails number message text path n = not_true _ (λ e. let both = and_parts (number == message) (pointwise nat_eq text path) e in n (eqb-true number message both.0) ((bytes_decides text path).0 both.1))

place_fails : (number message : ℕ) (text path : List ℕ) (at place : ℕ) → ((number ≡ message) → (text ≡ path) → (at ≡ place) → ⊥) → (pointwise nat_eq text path && (at == place) && (number == message)) ≡ false
place_fails number message text path at place n =
    not_true _ (λ e. let outer = and_parts (pointwise nat_eq text path && (at == place)) (number == message) e in
    let inner = and_parts (pointwise nat_eq text path) (at == place) outer.0 in n (eqb-true number message outer.1) ((bytes_decides text path).0 inner.0) (eqb-true at place inner.1))

-- the row isn't at the path
abbrev pub Misses : ℕ → List ℕ → RowChange → Type 0
Misses message path (InsertMessageRow r) = Unit {0}
Misses message path (InsertBodyPart r) = Unit {0}
Misses message path (InsertPartNumber r) = r.message ≡ message → r.path ≡ path → ⊥
Misses message path (InsertFieldName r) = Unit {0}
Misses message path (InsertHeaderField r) = r.message ≡ message → r.path ≡ path → ⊥
Misses message path (InsertAddressRow r) = Unit {0}
Misses message path (InsertAddressField r) = r.message ≡ message → r.path ≡ path → ⊥
Misses message path (InsertDateField r) = r.message ≡ message → r.path ≡ path → ⊥
Misses message path (InsertMessageId r) = r.message ≡ message → r.path ≡ path → ⊥
Misses message path (InsertUnparsedMessage r) = Unit {0}
Misses message path change = ⊥

pub same_itself : (message : ℕ) (path : List ℕ) (t : TableRows) → SameAt message path t t
same_itself message path t = record { part = refl; fields = refl; addresses = λ place. refl; dates = λ place. refl; ids = λ place. refl }

pub same_then : (message : ℕ) (path : List ℕ) (t u v : TableRows) → SameAt message path t u → SameAt message path u v → SameAt message path t v
same_then message path t u v a b = record {
  part = b.part ∙ a.part;
  fields = b.fields ∙ a.fields;
  addresses = λ place. b.addresses place ∙ a.addresses place;
  dates = λ place. b.dates place ∙ a.dates place;
  ids = λ place. b.ids place ∙ a.ids place;
}

same_step : (laws : RowLaws) (message : ℕ) (path : List ℕ) (t : TableRows) (change : RowChange) → AreOrdered t → Misses message path change → SameAt message path t (applied t change)
same_step laws message path t (InsertMessageRow r) ordered n = record { part = refl; fields = refl; addresses = λ place. refl; dates = λ place. refl; ids = λ place. refl }
same_step laws message path t (InsertBodyPart r) ordered n = record { part = refl; fields = refl; addresses = λ place. refl; dates = λ place. refl; ids = λ place. refl }
same_step laws message path t (InsertPartNumber r) ordered n = record {
  part = laws.part_numbers.other r (part_key message path) t.mails.part_numbers (key_differs laws (part_number_key r) (part_key message path) (λ e. n (ap (λ (k : RowKey). k.number) e) (ap (λ (k : RowKey). k.text) e)));
  fields = refl;
  addresses = λ place. refl;
  dates = λ place. refl;
  ids = λ place. refl;
}
same_step laws message path t (InsertFieldName r) ordered n = record { part = refl; fields = refl; addresses = λ place. refl; dates = λ place. refl; ids = λ place. refl }
same_step laws message path t (InsertHeaderField r) ordered n = record {
  part = refl;
  fields = fields_by_test message path (with_row header_field_key r t.mails.header_fields) ∙ laws.header_fields.failing (is_field_at message path) r t.mails.header_fields (pair_fails r.message message r.path path n) ordered.header_fields
      ∙ sym (fields_by_test message path t.mails.header_fields);
  addresses = λ place. refl;
  dates = λ place. refl;
  ids = λ place. refl;
}
same_step laws message path t (InsertAddressRow r) ordered n = record { part = refl; fields = refl; addresses = λ place. refl; dates = λ place. refl; ids = λ place. refl }
same_step laws message path t (InsertAddressField r) ordered n = record {
  part = refl;
  fields = refl;
  addresses = λ place. laws.address_fields.failing (λ x. pointwise nat_eq x.path path && (x.place == place) && (x.message == message)) r t.mails.address_fields (place_fails r.message message r.path path r.place place (λ a b c. n a b)) ordered.address_fields;
  dates = λ place. refl;
  ids = λ place. refl;
}
same_step laws message path t (InsertDateField r) ordered n = record {
  part = refl;
  fields = refl;
  addresses = λ place. refl;
  dates = λ place. laws.date_fields.other r (field_key message path place) t.mails.date_fields (key_differs laws (date_field_key r) (field_key message path place) (λ e. n (ap (λ (k : RowKey). k.number) e) (ap (λ (k : RowKey). k.text) e)));
  ids = λ place. refl;
}
same_step laws message path t (InsertMessageId r) ordered n = record {
  part = refl;
  fields = refl;
  addresses = λ place. refl;
  dates = λ place. refl;
  ids = λ place. laws.message_ids.failing (λ x. pointwise nat_eq x.path path && (x.place == place) && (x.message == message)) r t.mails.message_ids (place_fails r.message message r.path path r.place place (λ a b c. n a b)) ordered.message_ids;
}
same_step laws message path t (InsertUnparsedMessage r) ordered n = record { part = refl; fields = refl; addresses = λ place. refl; dates = λ place. refl; ids = λ place. refl }
same_step laws message path t _ ordered n = absurd n

pub same_along : (laws : RowLaws) (message other : ℕ) (path : List ℕ) (t : TableRows) (changes : List RowChange) (after : TableRows) → AreOrdered t → AllByRecursion (Misses other path) changes → Makes message t changes after → SameAt other path t after
same_along laws message other path t changes after ordered all made =
    along laws message (SameAt other path) (same_itself other path) (same_then other path) (Misses other path) (λ u change o fits suits m. same_step laws other path u change o m) t changes after ordered all made

-- the row is no value at the place
abbrev pub MissesPlace : ℕ → RowChange → Type 0
MissesPlace place (InsertMessageRow r) = Unit {0}
MissesPlace place (InsertBodyPart r) = Unit {0}
MissesPlace place (InsertPartNumber r) = Unit {0}
MissesPlace place (InsertFieldName r) = Unit {0}
MissesPlace place (InsertHeaderField r) = Unit {0}
MissesPlace place (InsertAddressRow r) = Unit {0}
MissesPlace place (InsertAddressField r) = r.place ≢ place
MissesPlace place (InsertDateField r) = r.place ≢ place
MissesPlace place (InsertMessageId r) = r.place ≢ place
MissesPlace place (InsertUnparsedMessage r) = Unit {0}
MissesPlace place change = ⊥

values_step : (laws : RowLaws) (message : ℕ) (path : List ℕ) (place : ℕ) (t : TableRows) (change : RowChange) → AreOrdered t → MissesPlace place change → SameValues message path place t (applied t change)
values_step laws message path place t (InsertMessageRow r) ordered n = record { addresses = refl; date = refl; ids = refl }
values_step laws message path place t (InsertBodyPart r) ordered n = record { addresses = refl; date = refl; ids = refl }
values_step laws message path place t (InsertPartNumber r) ordered n = record { addresses = refl; date = refl; ids = refl }
values_step laws message path place t (InsertFieldName r) ordered n = record { addresses = refl; date = refl; ids = refl }
values_step laws message path place t (InsertHeaderField r) ordered n = record { addresses = refl; date = refl; ids = refl }
values_step laws message path place t (InsertAddressRow r) ordered n = record { addresses = refl; date = refl; ids = refl }
values_step laws message path place t (InsertAddressField r) ordered n = record {
  addresses = laws.address_fields.failing (λ x. pointwise nat_eq x.path path && (x.place == place) && (x.message == message)) r t.mails.address_fields (place_fails r.message message r.path path r.place place (λ a b c. n c)) ordered.address_fields;
  date = refl;
  ids = refl;
}
values_step laws message path place t (InsertDateField r) ordered n = record {
  addresses = refl;
  date = laws.date_fields.other r (field_key message path place) t.mails.date_fields (key_differs laws (date_field_key r) (field_key message path place) (λ e. n (ap (λ (k : RowKey). k.place) e)));
  ids = refl;
}
values_step laws message path place t (InsertMessageId r) ordered n = record {
  addresses = refl;
  date = refl;
  ids = laws.message_ids.failing (λ x. pointwise nat_eq x.path path && (x.place == place) && (x.message == message)) r t.mails.message_ids (place_fails r.message message r.path path r.place place (λ a b c. n c)) ordered.message_ids;
}
values_step laws message path place t (InsertUnparsedMessage r) ordered n = record { addresses = refl; date = refl; ids = refl }
values_step laws message path place t _ ordered n = absurd n

pub values_along : (laws : RowLaws) (message : ℕ) (path : List ℕ) (place : ℕ) (t : TableRows) (changes : List RowChange) (after : TableRows) → AreOrdered t → AllByRecursion (MissesPlace place) changes → Makes message t changes after → SameValues message path place t after
values_along laws message path place t changes after ordered all made =
    along laws message (SameValues message path place) (λ u. record { addresses = refl; date = refl; ids = refl })
    (λ u v w a b. record { addresses = b.addresses ∙ a.addresses; date = b.date ∙ a.date; ids = b.ids ∙ a.ids }) (MissesPlace place) (λ u change o fits suits m. values_step laws message path place u change o m) t changes after ordered all made

-- changes at other paths miss one
pub elsewhere : (Where : List ℕ → Type 0) (message : ℕ) (path : List ℕ) → (Where path → ⊥) → (change : RowChange) → IsAt Where change → Misses message path change
elsewhere W message path n (InsertMessageRow r) h = tt
elsewhere W message path n (InsertBodyPart r) h = tt
elsewhere W message path n (InsertPartNumber r) h = λ e f. n (subst W f h)
elsewhere W message path n (InsertFieldName r) h = tt
elsewhere W message path n (InsertHeaderField r) h = λ e f. n (subst W f h)
elsewhere W message path n (InsertAddressRow r) h = tt
elsewhere W message path n (InsertAddressField r) h = λ e f. n (subst W f h)
elsewhere W message path n (InsertDateField r) h = λ e f. n (subst W f h)
elsewhere W message path n (InsertMessageId r) h = λ e f. n (subst W f h)
elsewhere W message path n (InsertUnparsedMessage r) h = tt
elsewhere W message path n _ h = absurd h

-- changes of one message miss all others
other_misses : (message other : ℕ) (path : List ℕ) → other ≢ message → (t : TableRows) (change : RowChange) → Suits message t change → Misses other path change
other_misses message other path n t (InsertMessageRow r) h = tt
other_misses message other path n t (InsertBodyPart r) h = tt
other_misses message other path n t (InsertPartNumber r) h = λ e f. n (sym e ∙ h)
other_misses message other path n t (InsertFieldName r) h = tt
other_misses message other path n t (InsertHeaderField r) h = λ e f. n (sym e ∙ h)
other_misses message other path n t (InsertAddressRow r) h = tt
other_misses message other path n t (InsertAddressField r) h = λ e f. n (sym e ∙ h)
other_misses message other path n t (InsertDateField r) h = λ e f. n (sym e ∙ h)
other_misses message other path n t (InsertMessageId r) h = λ e f. n (sym e ∙ h)
other_misses message other path n t (InsertUnparsedMessage r) h = tt
other_misses message other path n t _ h = absurd h

message_itself : (message : ℕ) (t : TableRows) → SameMessage message t t
message_itself message t = record { size = refl; reason = refl; rows = λ path. same_itself message path t }

message_then : (message : ℕ) (t u v : TableRows) → SameMessage message t u → SameMessage message u v → SameMessage message t v
message_then message t u v a b = record { size = b.size ∙ a.size; reason = b.reason ∙ a.reason; rows = λ path. same_then message path t u v (a.rows path) (b.rows path) }

message_step : (laws : RowLaws) (message other : ℕ) → other ≢ message → (t : TableRows) (change : RowChange) → AreOrdered t → Suits message t change → SameMessage other t (applied t change)
message_step laws message other n t change ordered suits = record {
  size = size change suits;
  reason = reason change suits;
  rows = λ path. same_step laws other path t change ordered (other_misses message other path n t change suits);
}
  where
    size : (c : RowChange) → Suits message t c → row_at message_key (number_key other) (applied t c).mails.messages ≡ row_at message_key (number_key other) t.mails.messages
    size (InsertMessageRow r) h = laws.messages.other r (number_key other) t.mails.messages (key_differs laws (message_key r) (number_key other) (λ e. n (sym (ap (λ (k : RowKey). k.number) e) ∙ h)))
    size (InsertBodyPart r) h = refl
    size (InsertPartNumber r) h = refl
    size (InsertFieldName r) h = refl
    size (InsertHeaderField r) h = refl
    size (InsertAddressRow r) h = refl
    size (InsertAddressField r) h = refl
    size (InsertDateField r) h = refl
    size (InsertMessageId r) h = refl
    size (InsertUnparsedMessage r) h = refl
    size _ h = absurd h

    reason : (c : RowChange) → Suits message t c → row_at unparsed_message_key (number_key other) (applied t c).mails.unparsed_messages ≡ row_at unparsed_message_key (number_key other) t.mails.unparsed_messages
    reason (InsertMessageRow r) h = refl
    reason (InsertBodyPart r) h = refl
    reason (InsertPartNumber r) h = refl
    reason (InsertFieldName r) h = refl
    reason (InsertHeaderField r) h = refl
    reason (InsertAddressRow r) h = refl
    reason (InsertAddressField r) h = refl
    reason (InsertDateField r) h = refl
    reason (InsertMessageId r) h = refl
    reason (InsertUnparsedMessage r) h = laws.unparsed_messages.other r (number_key other) t.mails.unparsed_messages (key_differs laws (unparsed_message_key r) (number_key other) (λ e. n (sym (ap (λ (k : RowKey). k.number) e) ∙ h)))
    reason _ h = absurd h

pub any_all : (changes : List RowChange) → AllByRecursion (λ change. Unit {0}) changes
any_all [] = tt
any_all (change ∷ changes) = (tt, any_all changes)

pub others_same : (laws : RowLaws) (message other : ℕ) → other ≢ message → (t : TableRows) (changes : List RowChange) (after : TableRows) → AreOrdered t → Makes message t changes after → SameMessage other t after
others_same laws message other n t changes after ordered made =
    along laws message (SameMessage other) (message_itself other) (message_then other) (λ change. Unit {0}) (λ u change o fits suits m. message_step laws message other n u change o suits) t changes after ordered (any_all changes) made

-- ---- rows that messages share

-- what messages share is the same in both
keeps_same : (t u : TableRows) → u.shared ≡ t.shared → Keeps (stored_by in_row t) (stored_by in_row u)
keeps_same t u e = record {
  names = λ id name h. subst (λ (s : SharedRows). HasName s.field_names id name) (sym e) h;
  addresses = λ id texts h. subst (λ (s : SharedRows). HasAddress s.addresses id texts) (sym e) h;
  bodies = λ id bytes h. subst (λ (s : SharedRows). RowHasBytes s.bodyparts id bytes) (sym e) h;
}

keeps_step : (laws : RowLaws) (message : ℕ) (t : TableRows) (change : RowChange) → Fits t change → Suits message t change → Keeps (stored_by in_row t) (stored_by in_row (applied t change))
keeps_step laws message t (InsertMessageRow r) fits suits = keeps_same t (applied t (InsertMessageRow r)) refl
keeps_step laws message t (InsertBodyPart r) fits suits = record {
  names = λ id name h. h;
  addresses = λ id texts h. h;
  bodies = λ id bytes h. (
    kept body_part_key (λ x. x.content) (same_keys laws) laws.bodyparts r t.shared.bodyparts id bytes fits.1 h.0,
    kept body_part_key (λ x. x.digest) (same_keys laws) laws.bodyparts r t.shared.bodyparts id (sha256 bytes) fits.1 h.1,
  );
}
keeps_step laws message t (InsertPartNumber r) fits suits = keeps_same t (applied t (InsertPartNumber r)) refl
keeps_step laws message t (InsertFieldName r) fits suits = record {
  names = λ id name h. kept field_name_key (λ x. x.name) (same_keys laws) laws.field_names r t.shared.field_names id name fits.1 h;
  addresses = λ id texts h. h;
  bodies = λ id bytes h. h;
}
keeps_step laws message t (InsertHeaderField r) fits suits = keeps_same t (applied t (InsertHeaderField r)) refl
keeps_step laws message t (InsertAddressRow r) fits suits = record {
  names = λ id name h. h;
  addresses = λ id texts h. kept address_key texts_in (same_keys laws) laws.addresses r t.shared.addresses id texts fits.3 h;
  bodies = λ id bytes h. h;
}
keeps_step laws message t (InsertAddressField r) fits suits = keeps_same t (applied t (InsertAddressField r)) refl
keeps_step laws message t (InsertDateField r) fits suits = keeps_same t (applied t (InsertDateField r)) refl
keeps_step laws message t (InsertMessageId r) fits suits = keeps_same t (applied t (InsertMessageId r)) refl
keeps_step laws message t (InsertUnparsedMessage r) fits suits = keeps_same t (applied t (InsertUnparsedMessage r)) refl
keeps_step laws message t _ fits suits = absurd suits

pub keeps_then : (t u v : Stored) → Keeps t u → Keeps u v → Keeps t v
keeps_then t u v a b = record {
  names = λ id name h. b.names id name (a.names id name h);
  addresses = λ id texts h. b.addresses id texts (a.addresses id texts h);
  bodies = λ id bytes h. b.bodies id bytes (a.bodies id bytes h);
}

pub keeps_along : (laws : RowLaws) (message : ℕ) (t : TableRows) (changes : List RowChange) (after : TableRows) → AreOrdered t → Makes message t changes after → Keeps (stored_by in_row t) (stored_by in_row after)
keeps_along laws message t changes after ordered made =
    along laws message (λ u v. Keeps (stored_by in_row u) (stored_by in_row v)) (λ u. keeps_same u u refl) (λ u v w a b. keeps_then (stored_by in_row u) (stored_by in_row v) (stored_by in_row w) a b) (λ change. Unit {0}) (λ u change o fits suits m. keeps_step laws message u change fits suits) t changes after ordered (any_all changes) made

-- ---- they stay distinct

abbrev pub has_texts : AddressTexts → AddressRow → Bool
has_texts a r = has_address a.name a.local a.domain r

pub texts_sound : (a : AddressTexts) (r : AddressRow) → has_texts a r ≡ true → texts_in r ≡ a
texts_sound a r e =
    let outer = and_parts (pointwise nat_eq r.name a.name && pointwise nat_eq r.local a.local) (pointwise nat_eq r.domain a.domain) e in
    let inner = and_parts (pointwise nat_eq r.name a.name) (pointwise nat_eq r.local a.local) outer.0 in
    let name = (bytes_decides r.name a.name).0 inner.0 in
    let local = (bytes_decides r.local a.local).0 inner.1 in
    let domain = (bytes_decides r.domain a.domain).0 outer.1 in
    ap (λ (x : List ℕ). record { name = x; local = r.local; domain = r.domain }) name ∙ ap (λ (x : List ℕ). record { name = a.name; local = x; domain = r.domain }) local ∙ ap (λ (x : List ℕ). record { name = a.name; local = a.local; domain = x }) domain

pub texts_complete : (a : AddressTexts) (r : AddressRow) → texts_in r ≡ a → has_texts a r ≡ true
texts_complete a r e =
    let name = (bytes_decides r.name a.name).1 (ap (λ (x : AddressTexts). x.name) e) in
    let local = (bytes_decides r.local a.local).1 (ap (λ (x : AddressTexts). x.local) e) in
    let domain = (bytes_decides r.domain a.domain).1 (ap (λ (x : AddressTexts). x.domain) e) in
    and_from (pointwise nat_eq r.name a.name && pointwise nat_eq r.local a.local) (pointwise nat_eq r.domain a.domain) (and_from (pointwise nat_eq r.name a.name) (pointwise nat_eq r.local a.local) name local) domain

pub name_sound : (a : List ℕ) (r : FieldName) → has_name a r ≡ true → r.name ≡ a
name_sound a r e = (bytes_decides r.name a).0 e

pub name_complete : (a : List ℕ) (r : FieldName) → r.name ≡ a → has_name a r ≡ true
name_complete a r e = (bytes_decides r.name a).1 e

distinct_same : (t u : TableRows) → u.shared ≡ t.shared → AreDistinct (stored_by in_row t) → AreDistinct (stored_by in_row u)
distinct_same t u e d = subst (λ (s : SharedRows). AreDistinct (stored_by in_row (record u { shared = s }))) (sym e) (record { names = d.names; addresses = d.addresses; contents = d.contents; digests = d.digests })

distinct_step : (laws : RowLaws) (message : ℕ) (t : TableRows) (change : RowChange) → Fits t change → Suits message t change → AreDistinct (stored_by in_row t) → AreDistinct (stored_by in_row (applied t change))
distinct_step laws message t (InsertMessageRow r) fits suits d = distinct_same t (applied t (InsertMessageRow r)) refl d
distinct_step laws message t (InsertBodyPart r) fits suits d = record {
  names = d.names;
  addresses = d.addresses;
  contents = still_apart body_part_key (λ x. x.content) (same_keys laws) laws.bodyparts r t.shared.bodyparts r.id refl (λ i h. suits.1 i (d.digests i r.content h)) d.contents;
  digests = digests;
}
  where
    rows : List BodyPart
    rows = with_row body_part_key r t.shared.bodyparts

    digests : (i : ℕ) (bytes : List ℕ) → HasContent (stored_by in_row (applied t (InsertBodyPart r))) i bytes → HasBytes (stored_by in_row (applied t (InsertBodyPart r))) i bytes
    digests i bytes h = (h, by (read_now body_part_key in_row (same_keys laws) laws.bodyparts r t.shared.bodyparts i bytes h))
      where
        by : ((body_part_key r ≡ number_key i) × (in_row r ≡ bytes)) ⊎ HasContent (stored_by in_row t) i bytes → option_map (λ (x : BodyPart). x.digest) (row_at body_part_key (number_key i) rows) ≡ Some (sha256 bytes)
        by (inl here) = subst (λ k. option_map (λ (x : BodyPart). x.digest) (row_at body_part_key k rows) ≡ Some (sha256 bytes)) here.0
            (ap (option_map (λ (x : BodyPart). x.digest)) (laws.bodyparts.same r t.shared.bodyparts) ∙ ap Some (suits.0 ∙ ap sha256 here.1))
        by (inr there) = kept body_part_key (λ x. x.digest) (same_keys laws) laws.bodyparts r t.shared.bodyparts i (sha256 bytes) fits.1 (d.digests i bytes there).1
distinct_step laws message t (InsertPartNumber r) fits suits d = distinct_same t (applied t (InsertPartNumber r)) refl d
distinct_step laws message t (InsertFieldName r) fits suits d = record {
  names = still_apart field_name_key (λ x. x.name) (same_keys laws) laws.field_names r t.shared.field_names r.id refl
      (lacking field_name_key (λ x. x.name) laws.field_names has_name name_sound name_complete (λ x. x.id) (λ x. refl) t.shared.field_names r.name (ap (option_map (λ (x : FieldName). x.id)) fits.2)) d.names;
  addresses = d.addresses;
  contents = d.contents;
  digests = d.digests;
}
distinct_step laws message t (InsertHeaderField r) fits suits d = distinct_same t (applied t (InsertHeaderField r)) refl d
distinct_step laws message t (InsertAddressRow r) fits suits d = record {
  names = d.names;
  addresses = still_apart address_key texts_in (same_keys laws) laws.addresses r t.shared.addresses r.id refl
      (lacking address_key texts_in laws.addresses has_texts texts_sound texts_complete (λ x. x.id) (λ x. refl) t.shared.addresses (texts_in r) (ap (option_map (λ (x : AddressRow). x.id)) fits.4)) d.addresses;
  contents = d.contents;
  digests = d.digests;
}
distinct_step laws message t (InsertAddressField r) fits suits d = distinct_same t (applied t (InsertAddressField r)) refl d
distinct_step laws message t (InsertDateField r) fits suits d = distinct_same t (applied t (InsertDateField r)) refl d
distinct_step laws message t (InsertMessageId r) fits suits d = distinct_same t (applied t (InsertMessageId r)) refl d
distinct_step laws message t (InsertUnparsedMessage r) fits suits d = distinct_same t (applied t (InsertUnparsedMessage r)) refl d
distinct_step laws message t _ fits suits d = absurd suits

pub distinct_along : (laws : RowLaws) (message : ℕ) (t : TableRows) (changes : List RowChange) (after : TableRows) → AreOrdered t → Makes message t changes after → AreDistinct (stored_by in_row t) → AreDistinct (stored_by in_row after)
distinct_along laws message t changes after ordered made =
    along laws message (λ u v. AreDistinct (stored_by in_row u) → AreDistinct (stored_by in_row v)) (λ u d. d) (λ u v w a b d. b (a d)) (λ change. Unit {0}) (λ u change o fits suits m. distinct_step laws message u change fits suits) t changes after ordered (any_all changes) made
