use Rattle.std.proofs.Common.{◌+◌, get_or, sym, subst}
use Rattle.std.proofs.lemmas.Bool.{ne_eqb}
use Rattle.mime_reader.proofs.ValueSizeLemmas.{Counts, counts_escaped, counts_byte}
use Rattle.mime_reader.proofs.value_sizes.quoted_size.Goals as goal

pub loop-at-preserved-then-escaped : goal.loop-at-preserved-then-escaped
loop-at-preserved-then-escaped c =
    counts_escaped c.args.text.now c.loop-at.size c.loop-at.at c.loop-at-test.true
    (subst (λ e. Counts c.args.text.now c.loop-at.size e c.loop-at.at) c.if-escaped.true c.loop-at.invariant)

pub loop-at-preserved : goal.loop-at-preserved
loop-at-preserved c =
    let text = c.args.text.now in
    let at = c.loop-at.at in
    subst (λ e. Counts text (c.loop-at.size + 1) e (at + 1)) (sym c.if-escaped.false)
    (counts_byte text c.loop-at.size at c.loop-at-test.true (ne_eqb (get_or text at 0) 34 c.if-b-eq34.false) (ne_eqb (get_or text at 0) 92 c.if-b-eq92.false)
    (subst (λ e. Counts text c.loop-at.size e at) c.if-escaped.false c.loop-at.invariant))
