use Rattle.std.proofs.Common.{length, ◌-◌, ◌≤◌, drop}
use Rattle.address_grammar.specs.Pieces.{in_comment}
use Rattle.address_grammar.proofs.PieceLemmas.{IsOpen}
use Rattle.address_grammar.proofs.lexing.comment.Given as goal

abbrev pub invariant-loop-at : goal.invariant-loop-at
invariant-loop-at l = record {
  open_piece : IsOpen (in_comment 0 l.rest) (in_comment l.depth (drop l.at l.rest)) l.rest l.text.items l.at;
  depth_within : l.depth ≤ l.at;
}

abbrev pub decreases-loop-at : goal.decreases-loop-at
decreases-loop-at l = length l.rest - l.at
