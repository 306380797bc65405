use Rattle.std.proofs.Common.{◌<◌, ◌∷◌, ◌∙◌, ap, sym, subst, arith, length, List, ℕ}
use Rattle.std.specs.Option.{option_map}
use Rattle.std.proofs.lemmas.Bool.Decides.{nat_tests}
use Rattle.date_grammar.specs.Words.{words}
use Rattle.date_grammar.specs.Reading.{date_words}
use Rattle.date_grammar.proofs.ReadingLemmas.{first_stays}
use Rattle.date_grammar.proofs.reading.first_word.Goals as goal

pub returns-else-is_empty : goal.returns-else-is_empty
returns-else-is_empty c =
    let word : List ℕ = c.in_ok-word.word.now in
    let rest : List ℕ = c.in_ok-word.rest.now in
    let some : 0 < length c.without_day_name-word.result.now = grind (arith, nat_tests) in
    ap (option_map date_words) c.in_ok-word.ensures
    ∙ first_stays word (words rest) (subst (λ (w : List ℕ). 0 < length w) c.without_day_name-word.ensures some)
    ∙ ap (λ (w : List ℕ). option_map (λ x. w ∷ x) (words rest)) (sym c.without_day_name-word.ensures)
