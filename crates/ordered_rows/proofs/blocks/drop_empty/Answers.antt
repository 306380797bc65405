use Rattle.std.proofs.Common.{◌≡◌, ◌≢◌, ◌<◌, length, sym, subst, ap, ◌∙◌, arith}
use Rattle.ordered_rows.specs.Blocks.{flat}
use Rattle.ordered_rows.proofs.Edits.{flat-remove_empty, AreFilled-with}
use borrow.Author.Tests.{eqb-true, eqb-false}
use Rattle.ordered_rows.proofs.blocks.drop_empty.Goals as goal

pub returns-then-is_empty-clause-rows : goal.returns-then-is_empty-clause-rows
returns-then-is_empty-clause-rows g c =
    let none : length c.index.result.now.items ≡ 0 = sym c.index.result.now.ok.0 ∙ eqb-true c.index.result.now.len 0 (sym c.if-is_empty.ensures) in
    ap flat c.remove.ensures.items ∙ flat-remove_empty c.args.blocks.now.items c.args.n c.index.result.now (subst (λ m. c.args.n < m) c.args.blocks.now.ok.0 c.requires.within) c.index.ensures none

pub returns-else-is_empty-clause-filled : goal.returns-else-is_empty-clause-filled
returns-else-is_empty-clause-filled g c =
    let len = c.index.result.now.len in
    let some : len ≢ 0 = eqb-false len 0 (sym c.if-is_empty.ensures) in
    let has : 0 < length c.index.result.now.items = omega (arith, some, c.index.result.now.ok.0) in
    AreFilled-with c.args.blocks.now.items c.args.n c.index.result.now c.requires.others (subst (λ m. c.args.n < m) c.args.blocks.now.ok.0 c.requires.within) c.index.ensures has
