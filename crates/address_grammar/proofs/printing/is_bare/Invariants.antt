use Rattle.std.proofs.Common.{◌≡◌, drop}
use Rattle.address_grammar.specs.Printing.{is_bare, split}
use Rattle.address_grammar.proofs.SplitLemmas.{left_bare}
use Rattle.address_grammar.proofs.printing.is_bare.Given as goal

abbrev pub invariant-loop-b : goal.invariant-loop-b
invariant-loop-b l = is_bare l.between l.text ≡ left_bare l.begun (split l.between (drop l.b-index l.text))
