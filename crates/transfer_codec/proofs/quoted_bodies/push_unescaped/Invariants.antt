use Rattle.std.proofs.Common.{◌≡◌, ◌≤◌, ◌++◌, ◌-◌, length, drop}
use Rattle.transfer_codec.specs.Scan.{scan}
use Rattle.transfer_codec.specs.Quoted.{escape_front, unescaped}
use Rattle.transfer_codec.proofs.quoted_bodies.push_unescaped.Given as goal

-- What is written, and what is left.
abbrev pub invariant-loop-at : goal.invariant-loop-at
invariant-loop-at l = record {
  within : l.at ≤ length l.text;
  written : l.out.items ++ scan escape_front (λ c. c) 0 (drop l.at l.text) ≡ l.fn.out.items ++ unescaped l.text;
}

abbrev pub decreases-loop-at : goal.decreases-loop-at
decreases-loop-at l = length l.text - l.at
