use Rattle.std.proofs.Common.{◌≡◌, drop}
use Rattle.address_grammar.specs.Words.{bare}
use Rattle.address_grammar.proofs.addresses.next_piece.Given as goal

abbrev pub invariant-loop-at : goal.invariant-loop-at
invariant-loop-at l = bare l.pieces ≡ bare (drop l.at l.pieces)
