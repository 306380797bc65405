use Rattle.std.proofs.Common.{◌≡◌, drop}
use Rattle.address_grammar.specs.Ids.{are_blanks}
use Rattle.address_grammar.proofs.ids.are_blanks.Given as goal

abbrev pub invariant-loop-b : goal.invariant-loop-b
invariant-loop-b l = are_blanks l.text ≡ are_blanks (drop l.b-index l.text)
