use Rattle.std.proofs.Common.{length, ◌-◌, ◌≤◌, ◌≡◌, ◌++◌, drop, option_map}
use Rattle.address_grammar.specs.Pieces.{pieces}
use Rattle.address_grammar.proofs.lexing.pieces.Given as goal

-- The pieces found, and those that are left.
abbrev pub invariant-loop-at : goal.invariant-loop-at
invariant-loop-at l = record {
  within : l.at ≤ length l.value;
  left : option_map (λ ps. l.out.items ++ ps) (pieces (drop l.at l.value)) ≡ pieces l.value;
}

abbrev pub decreases-loop-at : goal.decreases-loop-at
decreases-loop-at l = length l.value - l.at
