use Rattle.row_codec.proofs.AllChanges.{one_list}
use Rattle.row_codec.proofs.lists.encodings_differ.Goals as goal

pub returns : goal.returns
returns c = one_list
