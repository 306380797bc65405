use Rattle.std.proofs.Common.{◌+◌, drop, sym, ◌∙◌, ap, arith}
use Rattle.std.proofs.lemmas.List.{drop_all}
use Rattle.address_grammar.specs.Printing.{escaped}
use Rattle.canon_writer.specs.Counting.{with_bytes}
use Rattle.canon_writer.proofs.CountLemmas.{with_bytes-none}
use Rattle.canon_writer.proofs.PieceLemmas.{next_escaped}
use Rattle.canon_writer.proofs.value_sizes.with_escaped.Goals as goal

pub loop-b-preserved : goal.loop-b-preserved
loop-b-preserved c =
    let text = c.args.text.now in
    let at = c.loop-b.b-index in
    ap (λ f. with_bytes f (escaped (drop (at + 1) text))) c.with_escaped_byte-counted.ensures
    ∙ next_escaped c.loop-b.counted text at c.loop-b-test.true ∙ c.loop-b.invariant

pub returns : goal.returns
returns c =
    sym (with_bytes-none c.loop-b.counted)
    ∙ ap (λ t. with_bytes c.loop-b.counted (escaped t)) (sym (drop_all c.loop-b.b-index c.args.text.now (omega (arith, c.loop-b-test.false)))) ∙ c.loop-b.invariant
