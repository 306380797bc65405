use Rattle.std.proofs.Common.{◌≡◌, false, take, drop}
use Rattle.address_grammar.specs.Places.{places}
use Rattle.address_grammar.proofs.PlaceLemmas.{in_first}
use Rattle.address_grammar.proofs.places.first_place.Given as goal

-- The pieces passed belong to the first place.
abbrev pub invariant-loop-at : goal.invariant-loop-at
invariant-loop-at l = places false l.pieces ≡ in_first (take l.at l.pieces) (places l.angled (drop l.at l.pieces))
