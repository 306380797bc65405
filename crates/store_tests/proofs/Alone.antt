-- One change alone, as tests commit it.
use Rattle.std.proofs.Common.{◌≡◌, ℕ, List, [], ◌∷◌, ◌++◌, Option, Some, refl, sym, ap, ◌∙◌, subst}
use Rattle.std.proofs.lemmas.List.Elements.{Contains-push}
use Rattle.std.specs.List.{Contains}
use Rattle.row_tables.specs.TableRows.{TableRows}
use Rattle.row_tables.specs.Fits.{Fits, applied, CanRun}
use Rattle.row_tables.specs.declared.contents.BodyPart.{BodyPart}
use Rattle.row_tables.specs.declared.change.RowChange.{RowChange}
use Rattle.row_store.specs.Holding.{in_row}
use Rattle.row_store.specs.Bodies.{IsPlaced, ArePlaced, PlacesBytes}

pub alone : {X : Type 0} (items before : List X) (x : X) → before ≡ [] → items ≡ before ++ x ∷ [] → items ≡ x ∷ []
alone items before x none pushed = pushed ∙ ap (λ l. l ++ x ∷ []) none

pub runs_alone : (t : TableRows) (change : RowChange) (items : List RowChange) → items ≡ change ∷ [] → Fits t change → CanRun t items
runs_alone t change items is fits = subst (CanRun t) (sym is) (applied t change, (fits, refl))

pub placed_alone : (rows old new : List BodyPart) (bytes : List ℕ) (id : ℕ) (o : Option RowChange) (change : RowChange) (items : List RowChange) → o ≡ Some change → PlacesBytes in_row rows old new bytes id o → items ≡ change ∷ [] → ArePlaced new items
placed_alone rows old new bytes id o change items some places is = subst (ArePlaced new) (sym is) (one (subst (PlacesBytes in_row rows old new bytes id) some places), tt)
  where
    one : PlacesBytes in_row rows old new bytes id (Some change) → IsPlaced new change
    one (body, insert, same, fresh, grown) = subst (IsPlaced new) (sym insert) (subst (λ l. Contains l body) (sym grown) (Contains-push old body))
