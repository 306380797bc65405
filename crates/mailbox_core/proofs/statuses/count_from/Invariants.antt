use Rattle.std.proofs.Common.{◌≡◌, ◌+◌, length, filter, nat_le}
use Rattle.row_tables.specs.References.{uids_of}
use Rattle.mailbox_core.proofs.statuses.count_from.Given as goal

abbrev pub invariant-left : goal.invariant-left
invariant-left l = l.count + length (filter (λ uid. nat_le l.first uid) l.left) ≡ length (filter (λ uid. nat_le l.first uid) (uids_of l.mailbox l.tables.marks.mailbox_messages))

abbrev pub decreases-left : goal.decreases-left
decreases-left l = length l.left
