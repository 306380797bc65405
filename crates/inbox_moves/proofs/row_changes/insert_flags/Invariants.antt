use Rattle.std.proofs.Common.{◌≡◌, ◌++◌, length, map}
use Rattle.mail_stands.specs.MovingInbox.{flag_ids_of, flag_row_insertions}
use Rattle.inbox_moves.specs.Rows.{flags_for}
use Rattle.inbox_moves.proofs.row_changes.insert_flags.Given as goal

abbrev pub invariant-flags : goal.invariant-flags
invariant-flags l =
    l.changes.items ++ flag_row_insertions (flags_for l.id l.uid (map (λ r. r.flag) l.flags)) ≡ l.fn.changes.items ++ flag_row_insertions (flags_for l.id l.uid (flag_ids_of l.row l.tables.marks.flags))

abbrev pub decreases-flags : goal.decreases-flags
decreases-flags l = length l.flags
