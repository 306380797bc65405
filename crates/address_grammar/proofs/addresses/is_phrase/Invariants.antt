use Rattle.std.proofs.Common.{◌≡◌, drop}
use Rattle.address_grammar.specs.Words.{is_phrase}
use Rattle.address_grammar.proofs.addresses.is_phrase.Given as goal

abbrev pub invariant-loop-piece : goal.invariant-loop-piece
invariant-loop-piece l = is_phrase l.pieces ≡ is_phrase (drop l.piece-index l.pieces)
