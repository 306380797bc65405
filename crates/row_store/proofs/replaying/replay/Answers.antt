use Rattle.std.proofs.Common.{◌≡◌, List, Option, Some, Result, Ok, Err, IfOk, IfSome, Bool, false, sym, ◌∙◌, subst}
use Rattle.row_tables.specs.Fits.{CanRun}
use Rattle.row_tables.specs.declared.change.RowChange.{RowChange}
use Rattle.row_codec.specs.Encoding.{HaveTexts, HaveWidths, encoding}
use Rattle.row_store.proofs.replaying.replay.Goals as goal

if_ok : {T E : Type 0} (r : Result T E) (P Q : T → Type 0) → ((x : T) → P x → Q x) → IfOk r P → IfOk r Q
if_ok (Ok x) P Q step h = step x h
if_ok (Err e) P Q step h = tt

from_some : {T : Type 0} (P : T → Type 0) (o : Option T) (x : T) → o ≡ Some x → IfSome o P → P x
from_some P o x e h = subst (λ p. IfSome p P) e h

pub returns-in-Some-clause-not_all : goal.returns-in-Some-clause-not_all
returns-in-Some-clause-not_all c =
    let is = from_some _ c.in_ok-changes.field-0 c.in-Some.changes c.in-Some.is c.in_ok-changes.ensures.some in
    let fits = from_some _ c.in_ok-changes.field-0 c.in-Some.changes c.in-Some.is c.in_ok-changes.ensures.fits in
    if_ok c.run.result (λ (fit : Bool). fit ≡ false → CanRun c.args.tables.now c.in-Some.changes.items → ⊥)
    (λ (fit : Bool). fit ≡ false → (changes : List RowChange) → HaveWidths changes → c.args.payload.now ≡ encoding changes → CanRun c.args.tables.now changes → ⊥)
    (λ fit none e changes widths encoded can.
    none e (subst (CanRun c.args.tables.now) (c.encodings_differ.ensures changes c.in-Some.changes.items (c.fitting_texts_have_lengths.ensures c.args.tables.now can.0 changes can.1) widths fits.0 fits.1 (sym encoded ∙ is)) can))
    c.run.ensures.not_all
