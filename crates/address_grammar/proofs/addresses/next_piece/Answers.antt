use Rattle.std.proofs.Common.{◌+◌, sym, ◌∙◌, subst}
use Rattle.std.proofs.lemmas.List.{take_rest}
use Rattle.address_grammar.specs.Found.{IsNext}
use Rattle.address_grammar.proofs.AddressLemmas.{next_found}
use Rattle.address_grammar.proofs.addresses.next_piece.Goals as goal

pub returns-then-not-is_gap : goal.returns-then-not-is_gap
returns-then-not-is_gap c =
    let ps = c.args.pieces.now in
    subst (IsNext ps c.index-pieces-at.result) (sym (take_rest ps (c.loop-at.at + 1)))
    (next_found ps c.loop-at.at _ c.loop-at-test.true c.index-pieces-at.is (sym c.is_gap.ensures ∙ c.if-not-is_gap.true) c.loop-at.invariant)
