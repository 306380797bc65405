use Rattle.std.proofs.Common.{sym, ◌∙◌}
use Rattle.address_grammar.proofs.AddressLemmas.{closes_so}
use Rattle.address_grammar.proofs.addresses.closes.Goals as goal

pub returns-then-is_mark : goal.returns-then-is_mark
returns-then-is_mark c = c.are_gaps.ensures ∙ closes_so _ _ _ c.in-Some.ensures (sym c.is_mark.ensures ∙ c.if-is_mark.true)
