use Rattle.ordered_rows.proofs.AfterEdits.{undone}
use Rattle.ordered_rows.proofs.laws.insert_undone.Goals as goal

pub returns : goal.returns
returns g c = undone g.R.Keyed.key_of
