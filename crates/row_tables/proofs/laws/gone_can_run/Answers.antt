use Rattle.row_tables.proofs.Turns.{gone_can}
use Rattle.row_tables.proofs.laws.gone_can_run.Goals as goal

pub returns : goal.returns
returns c = gone_can c.insertion.ensures
