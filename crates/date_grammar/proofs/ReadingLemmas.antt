-- Words of a date, one behind the other.
use Rattle.std.proofs.Common.{◌≡◌, ℕ, ◌<◌, List, [], ◌∷◌, length, Option, Some, None, refl, sym, ◌∙◌, ap, arith}
use Rattle.std.specs.Option.{option_map, option_and_then}
use Rattle.date_grammar.specs.Words.{words, put_word}
use Rattle.date_grammar.specs.Reading.{date_of, date_words, without_day_name, reading}
use Rattle.date_grammar.specs.Scanning.{words_after}

put_some : (w : List ℕ) (ws : List (List ℕ)) → 0 < length w → put_word w ws ≡ w ∷ ws
put_some [] ws h = absurd (omega arith)
put_some (c ∷ w) ws h = refl

-- a first word that isn't the name of a day alone
pub first_stays : (word : List ℕ) (ws : Option (List (List ℕ))) → 0 < length (without_day_name word) →
    option_map date_words (option_map (λ x. word ∷ x) ws) ≡ option_map (λ x. without_day_name word ∷ x) ws
first_stays word None h = refl
first_stays word (Some ws) h = ap Some (put_some (without_day_name word) ws h)

-- five words, and behind them not nothing
too_many : (a b c d e : List ℕ) (ws : Option (List (List ℕ))) → (ws ≡ Some [] → ⊥) →
    option_and_then date_of (option_map (λ x. a ∷ x) (option_map (λ x. b ∷ x) (option_map (λ x. c ∷ x) (option_map (λ x. d ∷ x) (option_map (λ x. e ∷ x) ws))))) ≡ None
too_many a b c d e None h = refl
too_many a b c d e (Some []) h = absurd (h refl)
too_many a b c d e (Some (f ∷ fs)) h = refl

reading-words : (ws : Option (List (List ℕ))) → option_and_then (λ x. date_of (date_words x)) ws ≡ option_and_then date_of (option_map date_words ws)
reading-words None = refl
reading-words (Some ws) = refl

pub reading_none : (value a b c d e r₁ r₂ r₃ r₄ r₅ : List ℕ) →
    option_map date_words (words value) ≡ words_after a r₁ → words r₁ ≡ words_after b r₂ → words r₂ ≡ words_after c r₃ → words r₃ ≡ words_after d r₄ →
    words r₄ ≡ words_after e r₅ → (words r₅ ≡ Some [] → ⊥) → None ≡ reading value
reading_none value a b c d e r₁ r₂ r₃ r₄ r₅ h₁ h₂ h₃ h₄ h₅ h =
    sym (reading-words (words value) ∙ ap (option_and_then date_of) (h₁ ∙ ap (option_map (λ x. a ∷ x)) (h₂ ∙ ap (option_map (λ x. b ∷ x))
    (h₃ ∙ ap (option_map (λ x. c ∷ x)) (h₄ ∙ ap (option_map (λ x. d ∷ x)) h₅)))) ∙ too_many a b c d e (words r₅) h)
