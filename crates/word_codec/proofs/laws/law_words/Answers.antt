use Rattle.word_codec.proofs.SpellLemmas.{begins, word_shows}
use Rattle.word_codec.proofs.laws.law_words.Goals as goal

pub returns : goal.returns
returns c = record { exact = λ word text. ((λ e. begins word text e), (λ b. word_shows word text b)) }
