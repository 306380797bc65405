use Rattle.ordered_rows.proofs.Changes.{count_with, count_without}
use Rattle.ordered_rows.proofs.laws.counts.Goals as goal

pub returns-clause-inserted : goal.returns-clause-inserted
returns-clause-inserted g c = count_with g.R.Keyed.key_of

pub returns-clause-removed : goal.returns-clause-removed
returns-clause-removed g c = count_without g.R.Keyed.key_of
