use Rattle.std.proofs.Common.{◌≡◌, ◌++◌, drop}
use Rattle.address_grammar.specs.Words.{name_of}
use Rattle.address_grammar.proofs.NameLemmas.{left_name}
use Rattle.address_grammar.proofs.addresses.name.Given as goal

abbrev pub invariant-loop-piece : goal.invariant-loop-piece
invariant-loop-piece l = l.out.items ++ left_name l.begun l.apart (drop l.piece-index l.pieces) ≡ name_of l.pieces
