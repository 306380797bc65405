use Rattle.address_grammar.proofs.ReadLemmas.{reads}
use Rattle.address_grammar.proofs.IdSound.{ids_so}
use Rattle.address_grammar.proofs.WeightLemmas.{reads_weight, ids_fit}
use Rattle.address_grammar.proofs.laws.law_weights.Goals as goal

pub returns : goal.returns
returns c = record {
  items = λ text items e. reads_weight text items (reads text items e);
  ids = λ text ids e. ids_fit text ids (ids_so text ids e);
}
