use Rattle.std.proofs.Common.{◌+◌, drop, sym, ◌∙◌, ap, arith}
use Rattle.std.proofs.lemmas.List.{drop_all}
use Rattle.canon_writer.specs.Counting.{with_bytes}
use Rattle.canon_writer.proofs.CountLemmas.{with_bytes-none, with_bytes-more}
use Rattle.canon_writer.proofs.counting.with_bytes.Goals as goal

pub loop-b-preserved : goal.loop-b-preserved
loop-b-preserved c =
    let bytes = c.args.bytes.now in
    let at = c.loop-b.b-index in
    ap (λ f. with_bytes f (drop (at + 1) bytes)) c.with_byte-counted.ensures
    ∙ sym (with_bytes-more c.loop-b.counted bytes at c.loop-b-test.true) ∙ c.loop-b.invariant

pub returns : goal.returns
returns c =
    let bytes = c.args.bytes.now in
    sym (with_bytes-none c.loop-b.counted)
    ∙ ap (with_bytes c.loop-b.counted) (sym (drop_all c.loop-b.b-index bytes (omega (arith, c.loop-b-test.false)))) ∙ c.loop-b.invariant
