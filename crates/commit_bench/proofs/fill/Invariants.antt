use Rattle.std.proofs.Common.{◌≡◌, false, []}
use Rattle.commit_bench.proofs.fill.Given as goal

-- the store can take a message
abbrev pub invariant-loop-number : goal.invariant-loop-number
invariant-loop-number l = (l.store.spent ≡ false) × (l.store.placed ≡ [])
