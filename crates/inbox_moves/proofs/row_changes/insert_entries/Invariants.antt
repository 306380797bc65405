use Rattle.std.proofs.Common.{◌≡◌, ◌+◌, ◌++◌, drop}
use Rattle.row_tables.specs.InTurn.{entry_insertions}
use Rattle.mail_stands.specs.MovingInbox.{moved_rows}
use Rattle.inbox_moves.proofs.row_changes.insert_entries.Given as goal

-- the messages so far, and those that are left, from the next UID on
abbrev pub invariant-rows : goal.invariant-rows
invariant-rows l =
    (l.uid ≡ l.row-index + 1)
    × (l.changes.items ++ entry_insertions (moved_rows l.id l.uid 2 (drop l.row-index l.rows)) ≡ l.fn.changes.items ++ entry_insertions (moved_rows l.id 1 2 l.rows))
