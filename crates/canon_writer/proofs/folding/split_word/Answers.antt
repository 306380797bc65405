use Rattle.std.proofs.Common.{◌+◌, ◌<◌, ◌∷◌, length, sym, ◌∙◌, ap, arith}
use Rattle.std.proofs.lemmas.Bool.{and_left, and_right, not_from_true}
use Rattle.std.proofs.lemmas.List.{take_rest, drop_all}
use Rattle.canon_writer.specs.Folding.{words}
use Rattle.canon_writer.proofs.WordLemmas.{words_start, word_more, word_last}
use Rattle.canon_writer.proofs.folding.split_word.Goals as goal
use Rattle.canon_writer.proofs.folding.split_word.Goals.{else-not-is_blank-via-then-not-is_blank+else-is_blank, else-not-is_blank-via-else-not-is_blank}

pub loop-at-init : goal.loop-at-init
loop-at-init c = words_start c.args.text.now c.requires

pub loop-at-preserved : goal.loop-at-preserved
loop-at-preserved c =
    let text = c.args.text.now in
    let at = c.loop-at.at in
    let within : at + 1 < length text = omega (arith, c.loop-at-test.true, c.saturating_sub-at-end.ensures) in
    elim c.else-not-is_blank.branch [
      | else-not-is_blank-via-then-not-is_blank+else-is_blank w ↦
          word_more text at within (and_right _ _ (sym w.is_blank-then-not-is_blank.ensures ∙ w.if-is_blank.false)) c.loop-at.invariant
      | else-not-is_blank-via-else-not-is_blank w ↦
          word_more text at within (and_left _ _ (not_from_true _ (sym c.is_blank.ensures ∙ w.if-not-is_blank.false))) c.loop-at.invariant
    ]

pub returns-clause-words : goal.returns-clause-words
returns-clause-words c =
    let text = c.args.text.now in
    let at = c.loop-at.at in
    let none = take_rest text (length text) ∙ drop_all (length text) text (omega arith) in
    word_last text at (omega (arith, c.loop-at-test.false, c.saturating_sub-at-end.ensures)) (omega (arith, c.requires, c.loop-at.auto.at-end, c.saturating_sub-at-end.ensures)) c.loop-at.invariant
    ∙ ap (λ z. text ∷ words z) (sym none)
