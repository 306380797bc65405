use Rattle.row_codec.proofs.Fitting.{running_texts}
use Rattle.row_codec.proofs.lists.fitting_texts_have_lengths.Goals as goal

pub returns : goal.returns
returns c = running_texts
