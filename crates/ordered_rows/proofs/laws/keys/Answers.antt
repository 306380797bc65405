use Rattle.ordered_rows.proofs.Keys.{same_is, same_itself}
use Rattle.ordered_rows.proofs.AfterEdits.{numbers_lt}
use Rattle.ordered_rows.proofs.Numbers.{places_lt}
use Rattle.ordered_rows.proofs.laws.keys.Goals as goal

pub returns-clause-same : goal.returns-clause-same
returns-clause-same c = same_is

pub returns-clause-itself : goal.returns-clause-itself
returns-clause-itself c = same_itself

pub returns-clause-numbers : goal.returns-clause-numbers
returns-clause-numbers c = numbers_lt

pub returns-clause-places : goal.returns-clause-places
returns-clause-places c = places_lt
