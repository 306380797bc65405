use Rattle.std.proofs.Common.{◌++◌, sym, ◌∙◌, ap}
use Rattle.canon_writer.specs.Folding.{words, folded}
use Rattle.canon_writer.specs.Printing.{ended}
use Rattle.canon_writer.proofs.FoldLemmas.{first_word}
use Rattle.canon_writer.proofs.folding.append_words.Goals as goal

pub loop-rest-init : goal.loop-rest-init
loop-rest-init c =
    let old = c.args.out.now.items in
    let first = c.split_word.result.0.now in
    let rest = c.split_word.result.1.now in
    ap (λ z. z ++ ended (folded c.saturating_sub-left.result (words rest))) c.in_ok-extend_from_slice.ensures.items
    ∙ ap (λ r. (old ++ first) ++ ended (folded r (words rest))) c.saturating_sub-left.ensures
    ∙ first_word old first rest c.args.value.now c.args.room c.split_word.ensures.words

pub loop-rest-preserved : goal.loop-rest-preserved
loop-rest-preserved c =
    c.in_ok-left.ensures (words c.split_word-in-loop-rest.result.1.now)
    ∙ ap (λ ws. c.loop-rest.out.items ++ ended (folded c.loop-rest.left ws)) (sym c.split_word-in-loop-rest.ensures.words) ∙ c.loop-rest.invariant
