use Rattle.ordered_rows.proofs.AfterEdits.{replaced_same, replaced_other}
use Rattle.ordered_rows.proofs.laws.row_after_replace.Goals as goal

pub returns-clause-same : goal.returns-clause-same
returns-clause-same g c = replaced_same g.R.Keyed.key_of

pub returns-clause-other : goal.returns-clause-other
returns-clause-other g c = replaced_other g.R.Keyed.key_of
