use Rattle.address_grammar.proofs.IdSound.{ids_reading_is}
use Rattle.address_grammar.proofs.ids.read_ids.Goals as goal

pub returns-clause-grammar : goal.returns-clause-grammar
returns-clause-grammar c = ids_reading_is c.args.value.now _ c.in_ok-found.ensures
