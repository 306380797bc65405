use Rattle.std.proofs.Common.{◌≡◌, false, length}
use Rattle.address_grammar.specs.Places.{places}
use Rattle.address_grammar.specs.Lists.{list}
use Rattle.address_grammar.specs.Steps.{ahead_items, left_items, is_nothing}
use Rattle.address_grammar.proofs.items.items.Given as goal

-- The items found, and those that are left.
abbrev pub invariant-places : goal.invariant-places
invariant-places l = record {
  left : ahead_items l.out.items (left_items l.within (places false l.rest)) ≡ list (places false l.pieces);
  going : is_nothing l.within ≡ false;
}

abbrev pub decreases-places : goal.decreases-places
decreases-places l = length l.rest
