use Rattle.std.proofs.Common.{◌≡◌, ◌++◌, ◌∷◌, [], true, false, get_or, sym, ◌∙◌, ap}
use Rattle.std.specs.Str.{bytes_eq}
use Rattle.mime_reader.proofs.KindLemmas.{closes_here, closes_later}
use Rattle.mime_reader.proofs.bodies.closes_one.Goals as goal

pub returns-then-is_closed : goal.returns-then-is_closed
returns-then-is_closed c =
    let b = c.args.boundary.now in
    let outer = c.outer-item.result in
    let i = c.loop-outer.outer-index in
    let is : bytes_eq (get_or c.args.enclosing.now i outer) (b ++ 45 ∷ 45 ∷ []) ≡ true =
    ap (λ z. bytes_eq z (b ++ 45 ∷ 45 ∷ [])) (sym (c.as_slice.ensures ∙ c.outer-item.is)) ∙ sym c.if-is_closed.ensures in
    sym (closes_here b c.args.enclosing.now i outer c.loop-outer-test.true is) ∙ c.loop-outer.invariant

pub loop-outer-preserved : goal.loop-outer-preserved
loop-outer-preserved c =
    let b = c.args.boundary.now in
    let outer = c.outer-item.result in
    let i = c.loop-outer.outer-index in
    let is : bytes_eq (get_or c.args.enclosing.now i outer) (b ++ 45 ∷ 45 ∷ []) ≡ false =
    ap (λ z. bytes_eq z (b ++ 45 ∷ 45 ∷ [])) (sym (c.as_slice.ensures ∙ c.outer-item.is)) ∙ sym c.if-is_closed.ensures in
    sym (closes_later b c.args.enclosing.now i outer c.loop-outer-test.true is) ∙ c.loop-outer.invariant
