-- Rows that are found by their ids and digests.
use Rattle.std.proofs.Common.{◌≡◌, ℕ, Bool, true, false, cond, ◌||◌, ◌==◌, List, [], ◌∷◌, map, Option, Some, None, IsSome, refl, sym, ap, ◌∙◌, subst}
use mathlib.Core.Bool.{true≢false}
use borrow.Author.Tests.{eqb-true}
use Rattle.std.specs.Option.{option_map, is_some}
use Rattle.std.specs.List.{filter, find, list_any}
use Rattle.std.specs.Cmp.Lexicographic.{bytes_decides}
use Rattle.ordered_rows.specs.RowKey.{number_key}
use Rattle.ordered_rows.specs.Listed.{has_key, has_number, row_at}
use Rattle.row_tables.specs.Keys.{body_part_key}
use Rattle.row_tables.specs.Indexes.{has_digest, body_ids}
use Rattle.row_tables.specs.declared.contents.BodyPart.{BodyPart}

some_none : {X : Type 0} (x : X) → Some x ≡ None → ⊥
some_none x e = cc

some_same : {X : Type 0} (x y : X) → Some x ≡ Some y → x ≡ y
some_same x y e = cc

-- what a test finds passes it
find_passes : {X : Type 0} (p : X → Bool) (rows : List X) (x : X) → find p rows ≡ Some x → p x ≡ true
find_passes p [] x e = absurd (some_none x (sym e))
find_passes {X} p (y ∷ rows) x e = by (p y) refl e (λ q. find_passes p rows x q)
  where
    by : (b : Bool) → p y ≡ b → cond b (Some y) (find p rows) ≡ Some x → (find p rows ≡ Some x → p x ≡ true) → p x ≡ true
    by true q h rest = subst (λ z. p z ≡ true) (some_same y x h) q
    by false q h rest = rest h

pub row_id_is : (rows : List BodyPart) (id : ℕ) (row : BodyPart) → row_at body_part_key (number_key id) rows ≡ Some row → row.id ≡ id
row_id_is rows id row e = eqb-true row.id id (find_passes (has_key body_part_key (number_key id)) rows row e)

pub is_there : (rows : List BodyPart) (id : ℕ) → is_some (row_at body_part_key (number_key id) rows) ≡ list_any (has_number body_part_key id) rows
is_there [] id = refl
is_there (x ∷ rows) id = by (x.id == id) refl (is_there rows id)
  where
    by : (b : Bool) → (x.id == id) ≡ b → is_some (row_at body_part_key (number_key id) rows) ≡ list_any (has_number body_part_key id) rows
        → is_some (cond b (Some x) (row_at body_part_key (number_key id) rows)) ≡ (b || list_any (has_number body_part_key id) rows)
    by true q rest = refl
    by false q rest = rest

-- the index has the id of each body with the digest
pub in_body_ids : (d : List ℕ) (id : ℕ) (rows : List BodyPart) → option_map (λ (r : BodyPart). r.digest) (row_at body_part_key (number_key id) rows) ≡ Some d → list_any (λ n. n == id) (body_ids d rows) ≡ true
in_body_ids d id [] e = absurd (some_none d (sym e))
in_body_ids d id (x ∷ rows) e = by (has_key body_part_key (number_key id) x) (has_digest d x) refl refl e (λ h. in_body_ids d id rows h)
  where
    by : (a b : Bool) → has_key body_part_key (number_key id) x ≡ a → has_digest d x ≡ b → option_map (λ (r : BodyPart). r.digest) (cond a (Some x) (row_at body_part_key (number_key id) rows)) ≡ Some d
        → (option_map (λ (r : BodyPart). r.digest) (row_at body_part_key (number_key id) rows) ≡ Some d → list_any (λ n. n == id) (body_ids d rows) ≡ true)
        → list_any (λ n. n == id) (map (λ (r : BodyPart). r.id) (cond b (x ∷ filter (has_digest d) rows) (filter (has_digest d) rows))) ≡ true
    by true true p q h rest = ap (λ c. c || list_any (λ n. n == id) (body_ids d rows)) p
    by true false p q h rest = absurd (true≢false (sym ((bytes_decides x.digest d).1 (some_same x.digest d h)) ∙ q))
    by false true p q h rest = by_or (x.id == id) (rest h)
      where
        by_or : (c : Bool) → list_any (λ n. n == id) (body_ids d rows) ≡ true → (c || list_any (λ n. n == id) (body_ids d rows)) ≡ true
        by_or true k = refl
        by_or false k = k
    by false false p q h rest = rest h

-- where the first of the ids isn't it, it is one of the others
pub in_others : (n id : ℕ) (ids : List ℕ) → list_any (λ m. m == id) (n ∷ ids) ≡ true → (n ≡ id → ⊥) → list_any (λ m. m == id) ids ≡ true
in_others n id ids h differs = by (n == id) refl h
  where
    by : (b : Bool) → (n == id) ≡ b → (b || list_any (λ m. m == id) ids) ≡ true → list_any (λ m. m == id) ids ≡ true
    by true q k = absurd (differs (eqb-true n id q))
    by false q k = k
