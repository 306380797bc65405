use Rattle.std.proofs.Common.{take, drop}
use Rattle.address_grammar.specs.Pieces.{in_literal}
use Rattle.address_grammar.proofs.PieceLemmas.{IsOpen}
use Rattle.address_grammar.proofs.lexing.literal_len.Given as goal

abbrev pub invariant-loop-at : goal.invariant-loop-at
invariant-loop-at l = IsOpen (in_literal l.rest) (in_literal (drop l.at l.rest)) l.rest (take l.at l.rest) l.at
