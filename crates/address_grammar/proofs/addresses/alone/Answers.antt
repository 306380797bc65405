use Rattle.std.proofs.Common.{Some, sym, ◌∙◌, ap}
use Rattle.address_grammar.proofs.AddressLemmas.{alone_found, alone_more}
use Rattle.address_grammar.proofs.addresses.alone.Goals as goal

pub returns-then-not-are_gaps : goal.returns-then-not-are_gaps
returns-then-not-are_gaps c = alone_more c.args.place.now _ _ _ c.in-Some.ensures (sym c.are_gaps.ensures ∙ c.if-not-are_gaps.true)

pub returns : goal.returns
returns c = ap Some c.in_ok-item.ensures ∙ alone_found c.args.place.now _ _ _ _ c.in-Some.ensures (sym c.are_gaps.ensures ∙ c.if-not-are_gaps.false) c.in_ok-name.ensures
