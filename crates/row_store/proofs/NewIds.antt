-- The ids of new bodies.
use Rattle.std.proofs.Common.{◌≡◌, ℕ, ◌+◌, ◌-◌, ◌^◌, ◌<◌, ◌≤◌, max, nat_lt, not, Bool, true, false, cond, ◌||◌, ◌&&◌, List, [], ◌∷◌, ◌++◌, length, get_or, take, Option, Some, None, MatchOption, MatchBool, Result, Ok, Err, IfOk, refl, sym, ap, ◌∙◌, subst, arith}
use Rattle.std.proofs.lemmas.Bool.Decides.{nat_tests}
use Rattle.std.proofs.lemmas.List.{take_more}
use Rattle.std.proofs.lemmas.List.Folds.{list_any-append}
use Rattle.std.specs.declared.cmp.Ordering.{Ordering}
use Rattle.std.specs.declared.cmp.Ordering.TheVariants.{Less}
use Rattle.std.specs.Ordering.{is_lt}
use Rattle.std.specs.List.{filter, list_any}
use Rattle.std.specs.List.Sorted.{IsStrictlySortedBy}
use Rattle.std.specs.Option.{is_some}
use Rattle.ordered_rows.specs.RowKey.{key_cmp, number_key}
use Rattle.ordered_rows.specs.Listed.{row_cmp, IsInOrder, IsNewNumber, IsLeastFree, is_below, rows_from, last_row, has_number, row_at}
use Rattle.row_tables.specs.Keys.{body_part_key}
use Rattle.row_tables.specs.declared.contents.BodyPart.{BodyPart}
use Rattle.row_tables.specs.declared.change.RowChange.TheVariants.{InsertBodyPart}
use Rattle.sha2.specs.Sha256.{sha256}
use Rattle.row_store.specs.Holding.{in_row}
use Rattle.row_store.specs.Bodies.{greatest_id, IsNewId, HasBytes, IsThere, IsNewBody, PlacesBytes}
use Rattle.row_store.proofs.FoundRows.{is_there}

pub greatest-append : (xs ys : List BodyPart) → greatest_id (xs ++ ys) ≡ max (greatest_id xs) (greatest_id ys)
greatest-append [] ys = omega arith
greatest-append (x ∷ xs) ys = omega (arith, greatest-append xs ys)

pub greatest_more : (placed : List BodyPart) (i : ℕ) (d : BodyPart) → i < length placed → greatest_id (take (i + 1) placed) ≡ max (greatest_id (take i placed)) (get_or placed i d).id
greatest_more placed i d lt =
    let e : greatest_id (take (i + 1) placed) ≡ greatest_id (take i placed ++ get_or placed i d ∷ []) = ap greatest_id (take_more placed i d lt) in
    omega (arith, e, greatest-append (take i placed) (get_or placed i d ∷ []))

max_below : (a b n : ℕ) → nat_lt (max a b) n ≡ (nat_lt a n && nat_lt b n)
max_below a b n = grind (arith, nat_tests)

-- numbers alone compare as numbers
abbrev pub CompareAsNumbers : Type 0
CompareAsNumbers = (a b : ℕ) → is_lt (key_cmp (number_key a) (number_key b)) ≡ nat_lt a b

-- no row from a number on: all ids are below
pub none_from : CompareAsNumbers → (n : ℕ) (rows : List BodyPart) → 0 < n → rows_from body_part_key (number_key n) rows ≡ [] → nat_lt (greatest_id rows) n ≡ true
none_from numbers n [] pos e = grind (arith, nat_tests)
none_from numbers n (x ∷ rows) pos e = by (is_below body_part_key (number_key n) x) refl e (λ h. none_from numbers n rows pos h)
  where
    by : (b : Bool) → is_below body_part_key (number_key n) x ≡ b → cond (not b) (x ∷ rows_from body_part_key (number_key n) rows) (rows_from body_part_key (number_key n) rows) ≡ []
        → (rows_from body_part_key (number_key n) rows ≡ [] → nat_lt (greatest_id rows) n ≡ true) → nat_lt (max x.id (greatest_id rows)) n ≡ true
    by true q h rest =
        let below : nat_lt x.id n ≡ true = sym (numbers x.id n) ∙ q in
        max_below x.id (greatest_id rows) n ∙ ap (λ b. b && nat_lt (greatest_id rows) n) below ∙ rest h
    by false q h rest = cc

-- some row from a number on: the greatest id isn't below
pub some_from : CompareAsNumbers → (n : ℕ) (rows more : List BodyPart) (row : BodyPart) → rows_from body_part_key (number_key n) rows ≡ row ∷ more → nat_lt (greatest_id rows) n ≡ false
some_from numbers n [] more row e = cc
some_from numbers n (x ∷ rows) more row e = by (is_below body_part_key (number_key n) x) refl e (λ h. some_from numbers n rows more row h)
  where
    by : (b : Bool) → is_below body_part_key (number_key n) x ≡ b → cond (not b) (x ∷ rows_from body_part_key (number_key n) rows) (rows_from body_part_key (number_key n) rows) ≡ row ∷ more
        → (rows_from body_part_key (number_key n) rows ≡ row ∷ more → nat_lt (greatest_id rows) n ≡ false) → nat_lt (max x.id (greatest_id rows)) n ≡ false
    by true q h rest = max_below x.id (greatest_id rows) n ∙ ap (λ b. nat_lt x.id n && b) (rest h) ∙ and_false (nat_lt x.id n)
      where
        and_false : (b : Bool) → (b && false) ≡ false
        and_false true = refl
        and_false false = refl
    by false q h rest =
        let above : nat_lt x.id n ≡ false = sym (numbers x.id n) ∙ q in
        max_below x.id (greatest_id rows) n ∙ ap (λ b. b && nat_lt (greatest_id rows) n) above

less_is_below : CompareAsNumbers → (a b : ℕ) → key_cmp (number_key a) (number_key b) ≡ Less → nat_lt a b ≡ true
less_is_below numbers a b e = sym (numbers a b) ∙ ap is_lt e

pub has_last : (x : BodyPart) (rows : List BodyPart) → (last : BodyPart) × (last_row (x ∷ rows) ≡ Some last)
has_last x [] = (x, refl)
has_last x (y ∷ rows) = has_last y rows

pub last_is_greatest : CompareAsNumbers → (rows : List BodyPart) (last : BodyPart) → IsInOrder body_part_key rows → last_row rows ≡ Some last → greatest_id rows ≡ last.id
unfolding IsStrictlySortedBy
last_is_greatest numbers [] last order e = cc
last_is_greatest numbers (x ∷ []) last order e =
    let same : x ≡ last = cc in
    let id : x.id ≡ last.id = ap (λ (r : BodyPart). r.id) same in
    omega (arith, id)
last_is_greatest numbers (x ∷ y ∷ rows) last order e =
    let first : nat_lt x.id y.id ≡ true = less_is_below numbers x.id y.id order.0.0 in
    let lt : x.id < y.id = below x.id y.id first in
    let rest : greatest_id (y ∷ rows) ≡ last.id = last_is_greatest numbers (y ∷ rows) last order.1 e in
    omega (arith, lt, rest)
  where
    below : (a b : ℕ) → nat_lt a b ≡ true → a < b
    below a b t = grind (arith, nat_tests)

pub new_number_is : CompareAsNumbers → (rows : List BodyPart) (n : ℕ) → IsInOrder body_part_key rows → greatest_id rows < 2 ^ 64 - 1 → IsNewNumber body_part_key rows n → n ≡ greatest_id rows + 1
new_number_is numbers [] n order lt new = new
new_number_is numbers (x ∷ rows) n order lt new =
    let last = has_last x rows in
    let id : greatest_id (x ∷ rows) ≡ last.0.id = last_is_greatest numbers (x ∷ rows) last.0 order last.1 in
    let below : nat_lt last.0.id (2 ^ 64 - 1) ≡ true = subst (λ i. nat_lt i (2 ^ 64 - 1) ≡ true) id (is_below_last (greatest_id (x ∷ rows)) lt) in
    let at_last : MatchBool (nat_lt last.0.id (2 ^ 64 - 1)) (n ≡ last.0.id + 1) (IsLeastFree body_part_key 1 (x ∷ rows) n)
    = subst (λ o. MatchOption o (n ≡ 1) (λ l. MatchBool (nat_lt l.id (2 ^ 64 - 1)) (n ≡ l.id + 1) (IsLeastFree body_part_key 1 (x ∷ rows) n))) last.1 new in
    let next : n ≡ last.0.id + 1 = subst (λ b. MatchBool b (n ≡ last.0.id + 1) (IsLeastFree body_part_key 1 (x ∷ rows) n)) below at_last in
    next ∙ ap (λ i. i + 1) (sym id)
  where
    is_below_last : (a : ℕ) → a < 2 ^ 64 - 1 → nat_lt a (2 ^ 64 - 1) ≡ true
    is_below_last a lt = grind (arith, nat_tests)

pub new_where_last_is_taken : {E : Type 0} (rows placed : List BodyPart) (result : Result ℕ E) → nat_lt (max (greatest_id rows) (greatest_id placed)) (2 ^ 64 - 1) ≡ false
    → IfOk result (IsLeastFree body_part_key 1 (rows ++ placed)) → IfOk result (IsNewId (rows ++ placed))
new_where_last_is_taken rows placed (Err e) taken least = tt
new_where_last_is_taken rows placed (Ok id) taken least =
    let full : nat_lt (greatest_id (rows ++ placed)) (2 ^ 64 - 1) ≡ false = ap (λ g. nat_lt g (2 ^ 64 - 1)) (greatest-append rows placed) ∙ taken in
    subst (λ b. MatchBool b (id ≡ greatest_id (rows ++ placed) + 1) (IsLeastFree body_part_key 1 (rows ++ placed) id)) (sym full) least

pub new_above : (rows placed : List BodyPart) (id : ℕ) → nat_lt (max (greatest_id rows) (greatest_id placed)) (2 ^ 64 - 1) ≡ true
    → id ≡ max (greatest_id rows + 1) (greatest_id placed + 1) → IsNewId (rows ++ placed) id
new_above rows placed id free is =
    let room : nat_lt (greatest_id (rows ++ placed)) (2 ^ 64 - 1) ≡ true = ap (λ g. nat_lt g (2 ^ 64 - 1)) (greatest-append rows placed) ∙ free in
    let next : id ≡ greatest_id (rows ++ placed) + 1 = omega (arith, is, greatest-append rows placed) in
    subst (λ b. MatchBool b (id ≡ greatest_id (rows ++ placed) + 1) (IsLeastFree body_part_key 1 (rows ++ placed) id)) (sym room) next

-- A new id is that of no row, and of no placed body.
below_none : (rows : List BodyPart) (n : ℕ) → greatest_id rows < n → list_any (has_number body_part_key n) rows ≡ false
below_none [] n lt = refl
below_none (x ∷ rows) n lt = by (below_none rows n (omega arith))
  where
    differs : has_number body_part_key n x ≡ false
    differs = grind (arith, nat_tests)

    by : list_any (has_number body_part_key n) rows ≡ false → list_any (has_number body_part_key n) (x ∷ rows) ≡ false
    by rest = ap (λ b. b || list_any (has_number body_part_key n) rows) differs ∙ rest

pub new_is_free : (bodies : List BodyPart) (id : ℕ) → IsNewId bodies id → list_any (has_number body_part_key id) bodies ≡ false
new_is_free bodies id new = by (nat_lt (greatest_id bodies) (2 ^ 64 - 1)) new
  where
    by : (b : Bool) → MatchBool b (id ≡ greatest_id bodies + 1) (IsLeastFree body_part_key 1 bodies id) → list_any (has_number body_part_key id) bodies ≡ false
    by true e = below_none bodies id (omega (arith, e))
    by false least = least.free

none_from_is_some : {X : Type 0} (o : Option X) → is_some o ≡ false → o ≡ None
none_from_is_some None e = refl
none_from_is_some (Some x) e = cc

or_false : (a b : Bool) → (a || b) ≡ false → (a ≡ false) × (b ≡ false)
or_false true b e = cc
or_false false b e = (refl, e)

pub new_is_nowhere : (rows placed : List BodyPart) (id : ℕ) → IsNewId (rows ++ placed) id
    → (row_at body_part_key (number_key id) rows ≡ None) × (list_any (has_number body_part_key id) placed ≡ false)
new_is_nowhere rows placed id new =
    let both = or_false (list_any (has_number body_part_key id) rows) (list_any (has_number body_part_key id) placed) (sym (list_any-append (has_number body_part_key id) rows placed) ∙ new_is_free (rows ++ placed) id new) in
    (none_from_is_some (row_at body_part_key (number_key id) rows) (is_there rows id ∙ both.0), both.1)

-- ---- for the goals of single functions

pub not_true : (b : Bool) → not b ≡ true → b ≡ false
not_true true e = cc
not_true false e = refl

pub not_false : (b : Bool) → not b ≡ false → b ≡ true
not_false true e = refl
not_false false e = cc

pub has_row : (rows placed : List BodyPart) (id : ℕ) (result : Bool) → result ≡ is_some (row_at body_part_key (number_key id) rows) → result ≡ true → result ≡ list_any (has_number body_part_key id) (rows ++ placed)
has_row rows placed id result h e =
    e ∙ sym (list_any-append (has_number body_part_key id) rows placed ∙ ap (λ b. b || list_any (has_number body_part_key id) placed) (sym (is_there rows id) ∙ sym h ∙ e))

pub has_placed : (rows placed : List BodyPart) (id : ℕ) (first result : Bool) → first ≡ is_some (row_at body_part_key (number_key id) rows) → first ≡ false → result ≡ list_any (has_number body_part_key id) placed
    → result ≡ list_any (has_number body_part_key id) (rows ++ placed)
has_placed rows placed id first result h e k =
    k ∙ sym (list_any-append (has_number body_part_key id) rows placed ∙ ap (λ b. b || list_any (has_number body_part_key id) placed) (sym (is_there rows id) ∙ sym h ∙ e))

pub reaches : CompareAsNumbers → {X : Type 0} (view : X → BodyPart) (n : ℕ) (rows s t : List BodyPart) (o : Option X) → 0 < n → s ≡ rows_from body_part_key (number_key n) rows → MatchOption o ((s ≡ []) × (t ≡ [])) (λ x. s ≡ view x ∷ t)
    → is_some o ≡ not (nat_lt (greatest_id rows) n)
reaches numbers view n rows s t None pos e steps = ap not (sym (none_from numbers n rows pos (sym e ∙ steps.0)))
reaches numbers view n rows s t (Some x) pos e steps = ap not (sym (some_from numbers n rows t (view x) (sym e ∙ steps)))

pub placed_new : (rows placed new : List BodyPart) (bytes digest : List ℕ) (id : ℕ) (row kept : BodyPart) → row ≡ record { id = id; digest = digest; content = bytes } → kept ≡ record { id = id; digest = digest; content = bytes }
    → digest ≡ sha256 bytes → IsNewId (rows ++ placed) id → ((other : BodyPart) → IsThere rows placed other → HasBytes in_row other bytes → ⊥) → new ≡ placed ++ kept ∷ []
    → PlacesBytes in_row rows placed new bytes id (Some (InsertBodyPart row))
placed_new rows placed new bytes digest id row kept e e' d new_id lacking grown =
    let id_is : row.id ≡ id = ap (λ (r : BodyPart). r.id) e in
    let nowhere = new_is_nowhere rows placed id new_id in (
      row,
      refl,
      id_is,
      record {
        lacking = lacking;
        has = (ap (λ (r : BodyPart). r.content) e, ap (λ (r : BodyPart). r.digest) e ∙ d);
        id = subst (IsNewId (rows ++ placed)) (sym id_is) new_id;
        no_row = subst (λ i. row_at body_part_key (number_key i) rows ≡ None) (sym id_is) nowhere.0;
        not_placed = subst (λ i. list_any (has_number body_part_key i) placed ≡ false) (sym id_is) nowhere.1;
      },
      grown ∙ ap (λ r. placed ++ r ∷ []) (e' ∙ sym e),
    )
