use Rattle.std.proofs.Common.{◌≡◌, ◌++◌, length}
use Rattle.row_tables.specs.References.{uids_of}
use Rattle.inbox_moves.specs.Rows.{rows_after}
use Rattle.inbox_moves.proofs.entry_rows.rows_found.Given as goal

-- the rows so far, and those of the UIDs that are left
abbrev pub invariant-left : goal.invariant-left
invariant-left l =
    l.rows.items ++ rows_after l.mailbox l.tables.marks.mailbox_messages l.left ≡ rows_after l.mailbox l.tables.marks.mailbox_messages (uids_of l.mailbox l.tables.marks.mailbox_messages)

abbrev pub decreases-left : goal.decreases-left
decreases-left l = length l.left
