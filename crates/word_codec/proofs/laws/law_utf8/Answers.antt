use Rattle.word_codec.proofs.Utf8Lemmas.{utf8_nothing, utf8_char, utf8_replaced}
use Rattle.word_codec.proofs.laws.law_utf8.Goals as goal

pub returns : goal.returns
returns c = record { nothing = utf8_nothing; character = utf8_char; replaced = utf8_replaced }
