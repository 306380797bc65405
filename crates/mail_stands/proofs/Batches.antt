-- Rows that are put in and taken out one after another, and what keys then find.
use Rattle.std.proofs.Common.{◌≡◌, Bool, true, false, cond, List, [], ◌∷◌, Option, Some, None, refl, sym, ap, subst, ◌∙◌}
use Rattle.std.specs.Prelude.{◌||◌}
use Rattle.std.specs.List.{AllByRecursion, list_any}
use Rattle.std.specs.Option.{option_or}
use Rattle.std.proofs.lemmas.Bool.{true≢false}
use Rattle.ordered_rows.specs.RowKey.{RowKey, same_key}
use Rattle.ordered_rows.specs.Listed.{row_at, has_key, with_row, without}
use Rattle.ordered_rows.specs.InsertLaws.{InsertLaws}
use Rattle.mail_stands.proofs.Lists.{all-weaker, none_passes}
use Rattle.mail_stands.proofs.Owners.{SameKeys}

-- every key is the same as itself
abbrev pub Itself : Type 0
Itself = (a : RowKey) → same_key a a ≡ true

pub record Removes {X : Type 0} (key : X → RowKey) : Type 0 where
  pub same : (k : RowKey) (rows : List X) → row_at key k (without key k rows) ≡ None
  pub other : (k other : RowKey) (rows : List X) → same_key k other ≡ false → row_at key other (without key k rows) ≡ row_at key other rows

-- no two have one key
abbrev pub AreApart : {X : Type 0} → (X → RowKey) → List X → Type 0
AreApart key [] = Unit {0}
AreApart key (row ∷ more) = AllByRecursion (λ other. same_key (key row) (key other) ≡ false) more × AreApart key more

abbrev pub with_rows : {X : Type 0} → (X → RowKey) → List X → List X → List X
with_rows key [] rows = rows
with_rows key (row ∷ more) rows = with_rows key more (with_row key row rows)

abbrev pub without_rows : {X : Type 0} → (X → RowKey) → List RowKey → List X → List X
without_rows key [] rows = rows
without_rows key (k ∷ keys) rows = without_rows key keys (without key k rows)

module _ {X : Type 0} (key : X → RowKey) (same : SameKeys) where
  apart_none : Itself → (row : X) (more : List X) → AllByRecursion (λ other. same_key (key row) (key other) ≡ false) more → row_at key (key row) more ≡ None
  apart_none itself row more apart =
      none_passes (has_key key (key row)) more (all-weaker (λ other. same_key (key row) (key other) ≡ false) (λ other. has_key key (key row) other ≡ false)
      (λ other differs. by other differs (same_key (key other) (key row)) refl) more apart)
    where
      by : (other : X) → same_key (key row) (key other) ≡ false → (b : Bool) → same_key (key other) (key row) ≡ b → b ≡ false
      by other differs false e = refl
      by other differs true e = absurd (true≢false (sym (itself (key row)) ∙ (ap (same_key (key row)) (sym (same (key other) (key row) e)) ∙ differs)))

  pub at_with_rows : Itself → InsertLaws key → (k : RowKey) (more rows : List X) → AreApart key more → row_at key k (with_rows key more rows) ≡ option_or (row_at key k more) (row_at key k rows)
  at_with_rows itself laws k [] rows apart = refl
  at_with_rows itself laws k (row ∷ more) rows apart = at_with_rows itself laws k more (with_row key row rows) apart.1 ∙ by (same_key (key row) k) refl
    where
      by : (b : Bool) → same_key (key row) k ≡ b → option_or (row_at key k more) (row_at key k (with_row key row rows)) ≡ option_or (cond b (Some row) (row_at key k more)) (row_at key k rows)
      by false e = ap (option_or (row_at key k more)) (laws.other row k rows e)
      by true e =
          let is = same (key row) k e in
          ap (λ o. option_or o (row_at key k (with_row key row rows))) (subst (λ j. row_at key j more ≡ None) is (apart_none itself row more apart.0))
          ∙ subst (λ j. row_at key j (with_row key row rows) ≡ Some row) is (laws.same row rows)

  none_or : (b : Bool) (o : Option X) → cond b o o ≡ o
  none_or true o = refl
  none_or false o = refl

  pub at_without_rows : Removes key → (k : RowKey) (keys : List RowKey) (rows : List X) → row_at key k (without_rows key keys rows) ≡ cond (list_any (λ j. same_key j k) keys) None (row_at key k rows)
  at_without_rows laws k [] rows = refl
  at_without_rows laws k (j ∷ keys) rows = at_without_rows laws k keys (without key j rows) ∙ by (same_key j k) refl
    where
      by : (b : Bool) → same_key j k ≡ b → cond (list_any (λ i. same_key i k) keys) None (row_at key k (without key j rows)) ≡ cond (b || list_any (λ i. same_key i k) keys) None (row_at key k rows)
      by false e = ap (cond (list_any (λ i. same_key i k) keys) None) (laws.other j k rows e)
      by true e = ap (cond (list_any (λ i. same_key i k) keys) None) (subst (λ i. row_at key i (without key j rows) ≡ None) (same j k e) (laws.same j rows)) ∙ none_or (list_any (λ i. same_key i k) keys) None
