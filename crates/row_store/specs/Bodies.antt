-- Bodies that are placed before the changes that insert their rows are made.
use Rattle.std.specs.Prelude.{◌≡◌, ◌⊎◌, ℕ, ◌+◌, ◌-◌, ◌^◌, nat_lt, max, Bool, false, MatchBool, List, [], ◌∷◌, ◌++◌, Option, Some, None}
use Rattle.std.specs.List.{Contains, list_any, AllByRecursion}
use Rattle.sha2.specs.Sha256.{sha256}
use Rattle.ordered_rows.specs.RowKey.{number_key}
use Rattle.ordered_rows.specs.Listed.{row_at, has_number, IsLeastFree}
use Rattle.row_tables.specs.Keys.{body_part_key}
use Rattle.row_tables.specs.declared.contents.BodyPart.{BodyPart}
use Rattle.row_tables.specs.declared.change.RowChange.{RowChange}
use Rattle.row_tables.specs.declared.change.RowChange.TheVariants.{InsertBodyPart}

-- each body that the changes insert was placed
abbrev pub IsPlaced : List BodyPart → RowChange → Type 0
IsPlaced placed (InsertBodyPart row) = Contains placed row
IsPlaced placed change = Unit {0}

abbrev pub ArePlaced : List BodyPart → List RowChange → Type 0
ArePlaced placed changes = AllByRecursion (IsPlaced placed) changes

-- Below, `content` gives the content of a row of a body.

-- a body of these bytes
abbrev pub HasBytes : (BodyPart → List ℕ) → BodyPart → List ℕ → Type 0
HasBytes content body bytes = (content body ≡ bytes) × (body.digest ≡ sha256 bytes)

-- the body is a row, or one that was placed
abbrev pub IsThere : List BodyPart → List BodyPart → BodyPart → Type 0
IsThere rows placed body = (row_at body_part_key (number_key body.id) rows ≡ Some body) ⊎ Contains placed body

-- 0 where there is no body
abbrev pub greatest_id : List BodyPart → ℕ
greatest_id [] = 0
greatest_id (body ∷ bodies) = max body.id (greatest_id bodies)

-- The id for a new body: the greatest plus 1; where the greatest is the last of 64 bits, the least from 1 on that no body has.
abbrev pub IsNewId : List BodyPart → ℕ → Type 0
IsNewId bodies id = MatchBool (nat_lt (greatest_id bodies) (2 ^ 64 - 1)) (id ≡ greatest_id bodies + 1) (IsLeastFree body_part_key 1 bodies id)

-- A body of bytes that no row has and no placed body, under a new id.
pub record IsNewBody (content : BodyPart → List ℕ) (rows placed : List BodyPart) (bytes : List ℕ) (body : BodyPart) : Type 0 where
  pub lacking : (other : BodyPart) → IsThere rows placed other → HasBytes content other bytes → ⊥
  pub has : HasBytes content body bytes
  pub id : IsNewId (rows ++ placed) body.id
  pub no_row : row_at body_part_key (number_key body.id) rows ≡ None
  pub not_placed : list_any (has_number body_part_key body.id) placed ≡ false

-- How bytes were placed: their body is there, under the id, and nothing was placed; or the change inserts a new body, which was.
abbrev pub PlacesBytes : (BodyPart → List ℕ) → List BodyPart → List BodyPart → List BodyPart → List ℕ → ℕ → Option RowChange → Type 0
PlacesBytes content rows old new bytes id None = ((body : BodyPart) × IsThere rows old body × (body.id ≡ id) × HasBytes content body bytes) × (new ≡ old)
PlacesBytes content rows old new bytes id (Some change) =
    (body : BodyPart) × (change ≡ InsertBodyPart body) × (body.id ≡ id) × IsNewBody content rows old bytes body × (new ≡ old ++ body ∷ [])
