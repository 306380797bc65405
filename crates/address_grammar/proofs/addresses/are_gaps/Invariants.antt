use Rattle.std.proofs.Common.{◌≡◌, drop}
use Rattle.address_grammar.specs.Words.{are_gaps}
use Rattle.address_grammar.proofs.addresses.are_gaps.Given as goal

abbrev pub invariant-loop-piece : goal.invariant-loop-piece
invariant-loop-piece l = are_gaps l.pieces ≡ are_gaps (drop l.piece-index l.pieces)
