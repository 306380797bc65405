use Rattle.fetch_writer.proofs.ReadingLemmas.{reading_laws}
use Rattle.fetch_writer.proofs.laws.law_reading.Goals as goal

pub returns : goal.returns
returns c = reading_laws
