-- What the indexes know of the tables.
use Rattle.std.specs.Prelude.{◌≡◌, ℕ, Bool, true, false, ◌&&◌, nat_eq, List, [], map, Option, Some, refl}
use Rattle.std.proofs.Common.{ap, ◌∙◌}
use Rattle.std.specs.Cmp.{first_so, second_so}
use Rattle.std.specs.Option.{option_map}
use Rattle.std.specs.List.{AllByRecursion, filter, find}
use Rattle.std.specs.Cmp.Lexicographic.{pointwise, bytes_decides}
use Rattle.ordered_rows.specs.RowKey.{RowKey, same_key}
use Rattle.ordered_rows.specs.Listed.{row_at, is_in_group}
use Rattle.row_tables.specs.Keys.{texts_key, content_entry_key, digest_key, digest_entry_key}
use Rattle.row_tables.specs.declared.marks.FlagName.{FlagName}
use Rattle.row_tables.specs.declared.contents.BodyPart.{BodyPart}
use Rattle.row_tables.specs.declared.contents.FieldName.{FieldName}
use Rattle.row_tables.specs.declared.contents.AddressRow.{AddressRow}
use Rattle.row_tables.specs.declared.indexes.ContentEntry.{ContentEntry}
use Rattle.row_tables.specs.declared.indexes.DigestEntry.{DigestEntry}

abbrev pub has_flag_name : List ℕ → FlagName → Bool
has_flag_name name r = pointwise nat_eq r.name name

abbrev pub has_name : List ℕ → FieldName → Bool
has_name name r = pointwise nat_eq r.name name

abbrev pub has_address : List ℕ → List ℕ → List ℕ → AddressRow → Bool
has_address name local domain r = pointwise nat_eq r.name name && pointwise nat_eq r.local local && pointwise nat_eq r.domain domain

abbrev pub has_digest : List ℕ → BodyPart → Bool
has_digest digest r = pointwise nat_eq r.digest digest

-- the id of the flag name with the text
abbrev pub flag_name_id : List ℕ → List FlagName → Option ℕ
flag_name_id name rows = option_map (λ r. r.id) (find (has_flag_name name) rows)

-- the id of the field name with the text
abbrev pub field_name_id : List ℕ → List FieldName → Option ℕ
field_name_id name rows = option_map (λ r. r.id) (find (has_name name) rows)

-- the id of the address with the texts
abbrev pub address_id : List ℕ → List ℕ → List ℕ → List AddressRow → Option ℕ
address_id name local domain rows = option_map (λ r. r.id) (find (has_address name local domain) rows)

-- the ids of the bodies with the digest, ascending
abbrev pub body_ids : List ℕ → List BodyPart → List ℕ
body_ids digest rows = map (λ r. r.id) (filter (has_digest digest) rows)

-- What tells the rows of a table apart beside their keys: no two have the same content.
pub record Contents (X : Type 0) : Type 1 where
  pub Content : Type 0
  pub content : X → Content
  pub has : Content → X → Bool
  pub id : X → ℕ
  -- where an index keeps the id
  pub entry : Content → RowKey
  pub itself : (row : X) → has (content row) row ≡ true
  pub same : (c : Content) (row : X) → has c row ≡ true → content row ≡ c
  pub differs : (c : Content) (row : X) → has c row ≡ false → same_key (entry (content row)) (entry c) ≡ false

-- The index finds the id of each content where the table has it, and each row is the one that its content finds.
pub record AreIndexed {X : Type 0} (contents : Contents X) (entries : List ContentEntry) (rows : List X) : Type 0 where
  pub each : (c : contents.Content) → option_map (λ e. e.id) (row_at content_entry_key (contents.entry c) entries) ≡ option_map contents.id (find (contents.has c) rows)
  pub one : AllByRecursion (λ r. find (contents.has (contents.content r)) rows ≡ Some r) rows

pub same_bytes : (text : List ℕ) → pointwise nat_eq text text ≡ true
same_bytes text = (bytes_decides text text).1 refl

pub all_same : (a b c : Bool) → a ≡ true → b ≡ true → c ≡ true → (a && b && c) ≡ true
all_same a b c p q r = ap (λ x. x && b && c) p ∙ ap (λ x. x && c) q ∙ r

abbrev pub flag_name_contents : Contents FlagName
flag_name_contents = record {
  Content = List ℕ;
  content = λ r. r.name;
  has = has_flag_name;
  id = λ r. r.id;
  entry = λ name. texts_key name [] [];
  itself = λ r. same_bytes r.name;
  same = λ name r e. (bytes_decides r.name name).0 e;
  differs = λ name r e. ap (λ b. b && true && true && true) e;
}

abbrev pub field_name_contents : Contents FieldName
field_name_contents = record {
  Content = List ℕ;
  content = λ r. r.name;
  has = has_name;
  id = λ r. r.id;
  entry = λ name. texts_key name [] [];
  itself = λ r. same_bytes r.name;
  same = λ name r e. (bytes_decides r.name name).0 e;
  differs = λ name r e. ap (λ b. b && true && true && true) e;
}

pub one_differs : (a b c : Bool) → (a && b && c) ≡ false → (b && c && a && true && true && true) ≡ false
one_differs true true true e = e
one_differs true true false e = refl
one_differs true false c e = refl
one_differs false true true e = refl
one_differs false true false e = refl
one_differs false false c e = refl

pub same_address : (c : List ℕ × List ℕ × List ℕ) (r : AddressRow) → has_address c.0 c.1 c.2 r ≡ true → (r.name, r.local, r.domain) ≡ c
same_address (name, local, domain) r e =
    let two = first_so (pointwise nat_eq r.name name && pointwise nat_eq r.local local) (pointwise nat_eq r.domain domain) e in
    let first = (bytes_decides r.name name).0 (first_so (pointwise nat_eq r.name name) (pointwise nat_eq r.local local) two) in
    let second = (bytes_decides r.local local).0 (second_so (pointwise nat_eq r.name name) (pointwise nat_eq r.local local) two) in
    let third = (bytes_decides r.domain domain).0 (second_so (pointwise nat_eq r.name name && pointwise nat_eq r.local local) (pointwise nat_eq r.domain domain) e) in
    ap (λ x. (x, r.local, r.domain)) first ∙ ap (λ x. (name, x, r.domain)) second ∙ ap (λ x. (name, local, x)) third

abbrev pub address_contents : Contents AddressRow
address_contents = record {
  Content = List ℕ × List ℕ × List ℕ;
  content = λ r. (r.name, r.local, r.domain);
  has = λ c. has_address c.0 c.1 c.2;
  id = λ r. r.id;
  entry = λ c. texts_key c.0 c.1 c.2;
  itself = λ r. all_same (pointwise nat_eq r.name r.name) (pointwise nat_eq r.local r.local) (pointwise nat_eq r.domain r.domain) (same_bytes r.name) (same_bytes r.local) (same_bytes r.domain);
  same = same_address;
  differs = λ c r e. one_differs (pointwise nat_eq r.name c.0) (pointwise nat_eq r.local c.1) (pointwise nat_eq r.domain c.2) e;
}

-- the index has the ids of each digest
pub record AreDigests (entries : List DigestEntry) (rows : List BodyPart) : Type 0 where
  pub each : (digest : List ℕ) → map (λ e. e.id) (filter (is_in_group digest_entry_key (digest_key digest 0)) entries) ≡ body_ids digest rows
