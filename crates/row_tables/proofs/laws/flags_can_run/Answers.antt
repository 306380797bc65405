use Rattle.row_tables.proofs.Turns.{flags_can}
use Rattle.row_tables.proofs.laws.flags_can_run.Goals as goal

pub returns : goal.returns
returns c t mailbox uid = flags_can c.insertion.ensures mailbox uid t
