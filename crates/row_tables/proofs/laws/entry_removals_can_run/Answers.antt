use Rattle.row_tables.proofs.Turns.{entry_removals_can}
use Rattle.row_tables.proofs.laws.entry_removals_can_run.Goals as goal

pub returns : goal.returns
returns c t mailbox = entry_removals_can c.row_after_remove.ensures.other mailbox t
