use Rattle.ordered_rows.proofs.AfterEdits.{inserted_same, inserted_other}
use Rattle.ordered_rows.proofs.laws.row_after_insert.Goals as goal

pub returns-clause-same : goal.returns-clause-same
returns-clause-same g c = inserted_same g.R.Keyed.key_of

pub returns-clause-other : goal.returns-clause-other
returns-clause-other g c = inserted_other g.R.Keyed.key_of
