use Rattle.row_tables.proofs.Turns.{alone}
use Rattle.row_tables.proofs.laws.change_runs_alone.Goals as goal

pub returns : goal.returns
returns c = alone
