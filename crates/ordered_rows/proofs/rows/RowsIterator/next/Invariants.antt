use Rattle.std.proofs.Common.{◌≡◌, ◌++◌, length}
use Rattle.ordered_rows.specs.Blocks.{flat}
use Rattle.ordered_rows.proofs.rows.RowsIterator.next.Given as goal

abbrev pub invariant-loop-self : goal.invariant-loop-self
invariant-loop-self g l = l.self-inside.block.now ++ flat l.self-inside.later.now ≡ l.initial.self-inside.block.now ++ flat l.initial.self-inside.later.now

abbrev pub decreases-loop-self : goal.decreases-loop-self
decreases-loop-self g l = length l.self-inside.later.now
