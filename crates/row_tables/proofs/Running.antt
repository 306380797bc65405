-- Changes one after another.
use Rattle.std.proofs.Common.{◌≡◌, List, [], ◌∷◌, ◌++◌, sym, ap, ◌∙◌, subst, Result, Ok, Err, OnErr}
use Rattle.std.proofs.lemmas.List.{append_assoc}
use Rattle.row_tables.specs.TableRows.{TableRows}
use Rattle.row_tables.specs.Fits.{Fits, applied, CanRun, Runs, RunsPart}
use Rattle.row_tables.specs.declared.change.RowChange.{RowChange}

runs_and : (t now : TableRows) (made : List RowChange) (change : RowChange) → Runs t made now → Fits now change → Runs t (made ++ change ∷ []) (applied now change)
runs_and t now [] change e f = (subst (λ u. Fits u change) (sym e) f, ap (λ u. applied u change) e)
runs_and t now (c ∷ made) change h f = (h.0, runs_and (applied t c) now made change h.1 f)

pub next_fits : (now : TableRows) (left rest : List RowChange) (change : RowChange) → CanRun now left → left ≡ change ∷ rest → Fits now change
next_fits now left rest change h e = (subst (λ l. Runs now l h.0) e h.1).0

pub one_more : (t now new : TableRows) (all made left rest : List RowChange) (change : RowChange) → Runs t made now → all ≡ made ++ left → CanRun now left → left ≡ change ∷ rest → new ≡ applied now change
    → Runs t (made ++ change ∷ []) new × (all ≡ (made ++ change ∷ []) ++ rest) × CanRun new rest
one_more t now new all made left rest change runs split can e done =
    let next = subst (λ l. Runs now l can.0) e can.1 in
    (subst (Runs t (made ++ change ∷ [])) (sym done) (runs_and t now made change runs next.0), split ∙ ap (λ l. made ++ l) e ∙ sym (append_assoc made (change ∷ []) rest), (can.0, subst (λ u. Runs u rest can.0) (sym done) next.1))

pub stopped : (t now new : TableRows) (all made left : List RowChange) → Runs t made now → all ≡ made ++ left → new ≡ now → RunsPart t all new
stopped t now new all made left runs split same = (made, left, split, subst (Runs t made) (sym same) runs)

pub on_err : {X E : Type 0} (result : Result X E) (P : Type 0) → P → OnErr result P
on_err (Ok x) P p = tt
on_err (Err e) P p = p

pub one_end : (t : TableRows) (changes : List RowChange) (after other : TableRows) → Runs t changes after → Runs t changes other → after ≡ other
one_end t [] after other h k = sym h ∙ k
one_end t (change ∷ changes) after other h k = one_end (applied t change) changes after other h.1 k.1
