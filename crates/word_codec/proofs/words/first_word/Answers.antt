use Rattle.std.proofs.Common.{◌≡◌, Some, drop, sym, ◌∙◌, ap, arith}
use Rattle.std.proofs.lemmas.List.{take_rest, length-drop}
use Rattle.word_codec.specs.Words.{word_at}
use Rattle.word_codec.specs.Found.{parts}
use Rattle.word_codec.proofs.SpellLemmas.{word_fits}
use Rattle.word_codec.proofs.words.first_word.Goals as goal

pub overflow_add-end-in-Some : goal.overflow_add-end-in-Some
overflow_add-end-in-Some c =
    let here : word_at (drop c.loop-start.start c.args.text.now) ≡ Some (parts c.in-Some.word) = sym (c.in-Some.ensures ∙ ap word_at (take_rest c.args.text.now c.loop-start.start)) in
    let fits = word_fits (drop c.loop-start.start c.args.text.now) (parts c.in-Some.word) here in
    omega (arith, length-drop c.loop-start.start c.args.text.now, c.loop-start-test.true)

pub overflow_add-end-in-Some-2 : goal.overflow_add-end-in-Some-2
overflow_add-end-in-Some-2 c =
    let here : word_at (drop c.loop-start.start c.args.text.now) ≡ Some (parts c.in-Some.word) = sym (c.in-Some.ensures ∙ ap word_at (take_rest c.args.text.now c.loop-start.start)) in
    let fits = word_fits (drop c.loop-start.start c.args.text.now) (parts c.in-Some.word) here in
    omega (arith, length-drop c.loop-start.start c.args.text.now, c.loop-start-test.true)

pub returns-in-Some-clause-first : goal.returns-in-Some-clause-first
returns-in-Some-clause-first c =
    let here : word_at (drop c.loop-start.start c.args.text.now) ≡ Some (parts c.in-Some.word) = sym (c.in-Some.ensures ∙ ap word_at (take_rest c.args.text.now c.loop-start.start)) in
    let fits = word_fits (drop c.loop-start.start c.args.text.now) (parts c.in-Some.word) here in
    record {
      none_before = c.loop-start.invariant;
      here = here;
      within = omega (arith, length-drop c.loop-start.start c.args.text.now, c.loop-start-test.true);
    }
