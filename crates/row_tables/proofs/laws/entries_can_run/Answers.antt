use Rattle.row_tables.proofs.Turns.{entries_can}
use Rattle.row_tables.proofs.laws.entries_can_run.Goals as goal

pub returns : goal.returns
returns c = entries_can c.insertion.ensures
