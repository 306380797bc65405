use Rattle.ordered_rows.proofs.Groups.{numbers_same, numbers_other}
use Rattle.ordered_rows.proofs.laws.numbers_after_insert.Goals as goal

pub returns-clause-same : goal.returns-clause-same
returns-clause-same g c = numbers_same g.R.Keyed.key_of

pub returns-clause-other : goal.returns-clause-other
returns-clause-other g c f test row rows = numbers_other g.R.Keyed.key_of test row rows f
