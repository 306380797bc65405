use Rattle.row_tables.proofs.Turns.{removals_can}
use Rattle.row_tables.proofs.laws.flag_removals_can_run.Goals as goal

pub returns : goal.returns
returns c t mailbox uid = removals_can c.row_after_remove.ensures.other mailbox uid t
