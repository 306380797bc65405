use Rattle.std.proofs.Common.{◌≡◌, ◌++◌, drop}
use Rattle.row_tables.specs.InTurn.{gone_insertions}
use Rattle.mail_stands.specs.MovingInbox.{gone_rows}
use Rattle.inbox_moves.proofs.row_changes.insert_gone.Given as goal

abbrev pub invariant-rows : goal.invariant-rows
invariant-rows l = l.changes.items ++ gone_insertions (gone_rows l.modseq (drop l.row-index l.rows)) ≡ l.fn.changes.items ++ gone_insertions (gone_rows l.modseq l.rows)
