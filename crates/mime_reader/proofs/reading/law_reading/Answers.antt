use Rattle.mime_reader.proofs.OutcomeLemmas.{message-outcome, outcome-message, never_both}
use Rattle.mime_reader.proofs.GoodLemmas.{good, boundary_is}
use Rattle.mime_reader.proofs.reading.law_reading.Goals as goal

pub returns : goal.returns
returns c = record {
  exact = λ text tree. (message-outcome text tree, outcome-message text tree);
  never_both = never_both;
  good = good c.law_fields.ensures;
  boundary = boundary_is;
}
