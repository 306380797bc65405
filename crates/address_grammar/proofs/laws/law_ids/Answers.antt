use Rattle.address_grammar.specs.Words.{spaced}
use Rattle.address_grammar.proofs.IdLemmas.{ids_again}
use Rattle.address_grammar.proofs.IdSound.{ids_so, ids_given}
use Rattle.address_grammar.proofs.IdClean.{ids_no_control, ids_trimmed}
use Rattle.address_grammar.proofs.laws.law_ids.Goals as goal

pub returns : goal.returns
returns c = record {
  is_grammar = λ value ids. (ids_so value ids, ids_given value ids);
  read_again = λ value ids r. ids_so (spaced ids) ids (ids_again value ids (ids_given value ids r));
  is_trimmed = ids_trimmed;
  no_control = λ value ids b r small h. ids_no_control b value ids small r h;
}
