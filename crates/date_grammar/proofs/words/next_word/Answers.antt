use Rattle.std.proofs.Common.{◌<◌, ◌∙◌, ap, sym, arith, length, take, List, ℕ}
use Rattle.std.proofs.lemmas.List.{take_rest}
use Rattle.std.proofs.lemmas.Bool.Decides.{nat_tests}
use Rattle.date_grammar.specs.Scanning.{words_after, is_plain}
use Rattle.mail_text.specs.Texts.{behind}
use Rattle.date_grammar.proofs.WordLemmas.{first_word}
use Rattle.date_grammar.proofs.words.next_word.Goals as goal

pub returns : goal.returns
returns c =
    let text : List ℕ = c.in_ok-text.text.now in
    let some : 0 < length text = grind (arith, nat_tests) in
    c.in_ok-text.ensures.0 ∙ first_word text some c.in_ok-text.ensures.1
    ∙ ap (λ w. words_after w (behind is_plain text)) c.front_len-end.ensures.taken
    ∙ ap (words_after (take c.front_len-end.result text)) (c.front_len-end.ensures.left ∙ sym (take_rest text c.front_len-end.result))
