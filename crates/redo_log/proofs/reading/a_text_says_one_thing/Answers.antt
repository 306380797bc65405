use Rattle.redo_log.proofs.Texts.{one_meaning}
use Rattle.redo_log.proofs.reading.a_text_says_one_thing.Goals as goal

pub returns : goal.returns
returns c f g f2 g2 payloads others bytes = one_meaning f g f2 g2 payloads others bytes
