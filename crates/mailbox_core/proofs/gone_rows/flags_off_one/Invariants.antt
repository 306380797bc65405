use Rattle.std.proofs.Common.{◌≡◌, ◌++◌, length}
use Rattle.row_tables.specs.References.{flags_at}
use Rattle.mail_stands.specs.MovingInbox.{flag_row_removals}
use Rattle.mailbox_core.proofs.gone_rows.flags_off_one.Given as goal

-- What was made, and what the flags that are left make.
abbrev pub invariant-rows : goal.invariant-rows
invariant-rows l = l.changes.items ++ flag_row_removals l.rows ≡ flag_row_removals (flags_at l.mailbox l.uid l.tables.marks.flags)

abbrev pub decreases-rows : goal.decreases-rows
decreases-rows l = length l.rows
