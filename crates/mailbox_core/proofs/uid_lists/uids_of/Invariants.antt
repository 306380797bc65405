use Rattle.std.proofs.Common.{◌≡◌, ◌++◌, length}
use Rattle.row_tables.specs.References.{uids_of}
use Rattle.mailbox_core.proofs.uid_lists.uids_of.Given as goal

abbrev pub invariant-left : goal.invariant-left
invariant-left l = l.uids.items ++ l.left ≡ uids_of l.mailbox l.tables.marks.mailbox_messages

abbrev pub decreases-left : goal.decreases-left
decreases-left l = length l.left
