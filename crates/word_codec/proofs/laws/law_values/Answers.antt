use Rattle.word_codec.proofs.CutLemmas.{no_words}
use Rattle.word_codec.proofs.ValueLemmas.{value_last, value_joined, value_stays}
use Rattle.word_codec.proofs.laws.law_values.Goals as goal

pub returns : goal.returns
returns c = record { plain = no_words; last = value_last; joined = value_joined; stays = value_stays }
