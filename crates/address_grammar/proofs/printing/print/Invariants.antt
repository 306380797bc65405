use Rattle.std.proofs.Common.{◌≡◌, ◌++◌, drop}
use Rattle.address_grammar.specs.Printing.{printed_behind, printed}
use Rattle.address_grammar.proofs.printing.print.Given as goal

abbrev pub invariant-loop-item : goal.invariant-loop-item
invariant-loop-item l = l.out.items ++ printed_behind l.before (drop l.item-index l.items) ≡ printed l.items
