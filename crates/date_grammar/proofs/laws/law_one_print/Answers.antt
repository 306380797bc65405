use Rattle.date_grammar.proofs.UniqueLemmas.{one_internal, one_now}
use Rattle.date_grammar.proofs.laws.law_one_print.Goals as goal

pub returns : goal.returns
returns c = record { now = one_now; internal = one_internal }
