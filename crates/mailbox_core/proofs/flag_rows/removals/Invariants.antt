use Rattle.std.proofs.Common.{◌≡◌, ◌++◌, length, map}
use Rattle.std.specs.List.{filter}
use Rattle.row_tables.specs.InTurn.{flag_removals}
use Rattle.mail_stands.specs.Storing.{dropped, drops, is_named_id}
use Rattle.mailbox_core.proofs.flag_rows.removals.Given as goal

-- What was made, and what the flags that are left make.
abbrev pub invariant-rows : goal.invariant-rows
invariant-rows l =
    l.changes.items ++ flag_removals l.mailbox l.uid (filter (λ flag. drops l.how (is_named_id l.tables l.flags flag)) (map (λ r. r.flag) l.rows)) ≡ flag_removals l.mailbox l.uid (dropped l.tables l.mailbox l.how l.flags l.uid)

abbrev pub decreases-rows : goal.decreases-rows
decreases-rows l = length l.rows
