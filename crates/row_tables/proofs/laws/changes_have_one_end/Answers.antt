use Rattle.row_tables.proofs.Running.{one_end}
use Rattle.row_tables.proofs.laws.changes_have_one_end.Goals as goal

pub returns : goal.returns
returns c = one_end
