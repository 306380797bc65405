use Rattle.std.proofs.Common.{length, ◌-◌, drop}
use Rattle.address_grammar.specs.Pieces.{in_quotes}
use Rattle.address_grammar.proofs.PieceLemmas.{IsOpen}
use Rattle.address_grammar.proofs.lexing.quoted.Given as goal

abbrev pub invariant-loop-at : goal.invariant-loop-at
invariant-loop-at l = IsOpen (in_quotes l.rest) (in_quotes (drop l.at l.rest)) l.rest l.text.items l.at

abbrev pub decreases-loop-at : goal.decreases-loop-at
decreases-loop-at l = length l.rest - l.at
