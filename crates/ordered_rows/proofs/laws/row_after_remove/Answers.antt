use Rattle.ordered_rows.proofs.AfterEdits.{removed_same, removed_other}
use Rattle.ordered_rows.proofs.laws.row_after_remove.Goals as goal

pub returns-clause-same : goal.returns-clause-same
returns-clause-same g c = removed_same g.R.Keyed.key_of

pub returns-clause-other : goal.returns-clause-other
returns-clause-other g c = removed_other g.R.Keyed.key_of
