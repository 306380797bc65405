use Rattle.std.proofs.Common.{length}
use Rattle.header_reader.proofs.UnfoldLemmas.{IsUnfolded}
use Rattle.header_reader.proofs.header.unfold.Given as goal

abbrev pub invariant-lines : goal.invariant-lines
invariant-lines l = IsUnfolded l.text l.rest l.current.items l.out.items

abbrev pub decreases-lines : goal.decreases-lines
decreases-lines l = length l.rest
