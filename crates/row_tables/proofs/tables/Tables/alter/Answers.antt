use Rattle.row_tables.proofs.Standing.{nothing_done}
use Rattle.row_tables.proofs.tables.Tables.alter.Goals as goal

pub returns-in_default : goal.returns-in_default
returns-in_default c = nothing_done c.args.self.now c.args.change c.requires.fits c.requires.kind (record { not_UpdateMailbox = c.requires.elsewhere; not_UpdateMailboxMessage = c.in_default.not-UpdateMailboxMessage; not_RemoveMailboxMessage = c.in_default.not-RemoveMailboxMessage; not_RemoveFlagRow = c.in_default.not-RemoveFlagRow; not_RemoveSubscription = c.in_default.not-RemoveSubscription; not_UpdateCounters = c.in_default.not-UpdateCounters; not_DropMailbox = c.in_default.not-DropMailbox })
