use Rattle.std.proofs.Common.{length}
use Rattle.mime_reader.proofs.CutLemmas.{IsPassed}
use Rattle.mime_reader.proofs.bodies.first_piece.Given as goal

abbrev pub invariant-loop-line : goal.invariant-loop-line
invariant-loop-line l = IsPassed l.boundary l.text l.rest

abbrev pub decreases-loop-line : goal.decreases-loop-line
decreases-loop-line l = length l.rest
