use Rattle.std.proofs.Common.{sym, ◌∙◌}
use Rattle.transfer_codec.proofs.QuotedLemmas.{escape_at, escape_short, escape_other}
use Rattle.transfer_codec.proofs.quoted_bodies.escape.Goals as goal
use Rattle.transfer_codec.proofs.quoted_bodies.escape.Goals.{else-text-ge3-via-then-text-ge3+else-text-eq61, else-text-ge3-via-else-text-ge3}

pub returns-then-text-eq61-clause-value : goal.returns-then-text-eq61-clause-value
returns-then-text-eq61-clause-value c = c.hex_byte.ensures ∙ sym (escape_at c.args.text.now c.if-text-ge3.true c.if-text-eq61.true)

pub returns-else-text-ge3-clause-value : goal.returns-else-text-ge3-clause-value
returns-else-text-ge3-clause-value c = elim c.else-text-ge3.branch [
  | else-text-ge3-via-then-text-ge3+else-text-eq61 w ↦ sym (escape_other c.args.text.now w.if-text-eq61.false)
  | else-text-ge3-via-else-text-ge3 w ↦ sym (escape_short c.args.text.now w.if-text-ge3.false)
]
