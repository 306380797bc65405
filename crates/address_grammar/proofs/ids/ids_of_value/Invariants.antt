use Rattle.std.proofs.Common.{◌≡◌, ◌≤◌, length}
use Rattle.address_grammar.specs.Printing.{split}
use Rattle.address_grammar.specs.Ids.{ids_of}
use Rattle.address_grammar.proofs.SplitLemmas.{ahead_ids}
use Rattle.address_grammar.proofs.ids.ids_of_value.Given as goal

-- The ids found, and those that are left.
abbrev pub invariant-loop-end : goal.invariant-loop-end
invariant-loop-end l = record {
  left : ahead_ids l.out.items (ids_of (split 62 l.rest)) ≡ ids_of (split 62 l.value);
  within : length l.rest ≤ length l.value;
}

abbrev pub decreases-loop-end : goal.decreases-loop-end
decreases-loop-end l = length l.rest
