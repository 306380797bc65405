use Rattle.std.proofs.Common.{◌≡◌, ◌++◌, drop}
use Rattle.address_grammar.specs.Printing.{escaped}
use Rattle.address_grammar.proofs.printing.append_escaped.Given as goal

abbrev pub invariant-loop-b : goal.invariant-loop-b
invariant-loop-b l = l.out.items ++ escaped (drop l.b-index l.text) ≡ l.fn.out.items ++ escaped l.text
