use Rattle.std.proofs.Common.{◌≡◌, ◌++◌, drop}
use Rattle.row_tables.specs.InTurn.{entry_removals}
use Rattle.inbox_moves.specs.Rows.{uids_in}
use Rattle.inbox_moves.proofs.row_changes.remove_entries.Given as goal

abbrev pub invariant-rows : goal.invariant-rows
invariant-rows l = l.changes.items ++ entry_removals l.mailbox (uids_in (drop l.row-index l.rows)) ≡ l.fn.changes.items ++ entry_removals l.mailbox (uids_in l.rows)
