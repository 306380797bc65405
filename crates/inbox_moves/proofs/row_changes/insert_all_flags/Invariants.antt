use Rattle.std.proofs.Common.{◌≡◌, ◌+◌, ◌++◌, drop}
use Rattle.mail_stands.specs.MovingInbox.{flag_row_insertions, moved_flags}
use Rattle.inbox_moves.proofs.row_changes.insert_all_flags.Given as goal

-- the flags of the messages so far, and those of the messages that are left
abbrev pub invariant-rows : goal.invariant-rows
invariant-rows l =
    (l.uid ≡ l.row-index + 1)
    × (l.changes.items ++ flag_row_insertions (moved_flags l.id l.uid l.tables.marks.flags (drop l.row-index l.rows)) ≡ l.fn.changes.items ++ flag_row_insertions (moved_flags l.id 1 l.tables.marks.flags l.rows))
