use Rattle.std.proofs.Common.{arith}
use Rattle.transfer_codec.proofs.QuotedLemmas.{equals_last, other_last}
use Rattle.transfer_codec.proofs.quoted_bodies.without_equals.Goals as goal
use Rattle.transfer_codec.proofs.quoted_bodies.without_equals.Goals.{else-n-gt0-via-then-n-gt0+else-line-n-eq61, else-n-gt0-via-else-n-gt0}

pub returns-then-line-n-eq61 : goal.returns-then-line-n-eq61
returns-then-line-n-eq61 c = equals_last c.args.line.now c.if-n-gt0.true c.if-line-n-eq61.true

pub returns-else-n-gt0 : goal.returns-else-n-gt0
returns-else-n-gt0 c = elim c.else-n-gt0.branch [
  | else-n-gt0-via-then-n-gt0+else-line-n-eq61 w ↦ other_last c.args.line.now (λ some e. w.if-line-n-eq61.false e)
  | else-n-gt0-via-else-n-gt0 w ↦ other_last c.args.line.now (λ some e. absurd (omega (arith, w.if-n-gt0.false)))
]
