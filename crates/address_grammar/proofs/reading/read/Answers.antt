use Rattle.address_grammar.proofs.ReadLemmas.{reading_is}
use Rattle.address_grammar.proofs.reading.read.Goals as goal

pub returns-clause-grammar : goal.returns-clause-grammar
returns-clause-grammar c = reading_is c.args.value.now _ c.in_ok-found.ensures
