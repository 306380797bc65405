use Rattle.std.proofs.Common.{arith}
use Rattle.std.proofs.lemmas.Int.{ints}
use Rattle.date_grammar.proofs.DayLemmas.{year_positive}
use Rattle.date_grammar.proofs.days.date_at.Goals as goal

pub returns-clause-positive : goal.returns-clause-positive
returns-clause-positive c = year_positive c.in-Ok.date (omega (arith, ints, c.in-Ok.ensures.value))
