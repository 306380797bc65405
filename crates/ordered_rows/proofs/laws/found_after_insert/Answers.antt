use Rattle.ordered_rows.proofs.Groups.{found_same, found_other}
use Rattle.ordered_rows.proofs.laws.found_after_insert.Goals as goal

pub returns-clause-same : goal.returns-clause-same
returns-clause-same g c test row rows = found_same g.R.Keyed.key_of test row rows

pub returns-clause-other : goal.returns-clause-other
returns-clause-other g c test row rows = found_other g.R.Keyed.key_of test row rows
