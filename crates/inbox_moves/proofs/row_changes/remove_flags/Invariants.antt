use Rattle.std.proofs.Common.{◌≡◌, ◌++◌, length}
use Rattle.row_tables.specs.References.{flags_of}
use Rattle.mail_stands.specs.MovingInbox.{flag_row_removals}
use Rattle.inbox_moves.proofs.row_changes.remove_flags.Given as goal

abbrev pub invariant-flags : goal.invariant-flags
invariant-flags l = l.changes.items ++ flag_row_removals l.flags ≡ l.fn.changes.items ++ flag_row_removals (flags_of l.mailbox l.tables.marks.flags)

abbrev pub decreases-flags : goal.decreases-flags
decreases-flags l = length l.flags
