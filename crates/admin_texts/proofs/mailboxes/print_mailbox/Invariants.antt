use Rattle.std.proofs.Common.{◌≡◌, ◌++◌, length}
use Rattle.std.specs.Prelude.{flat_map}
use Rattle.admin_texts.specs.Mailboxes.{lines_at, lines_of}
use Rattle.admin_texts.proofs.mailboxes.print_mailbox.Given as goal

abbrev pub invariant-uids : goal.invariant-uids
invariant-uids l =
    l.out.items ++ flat_map (lines_at l.tables.marks.mailbox_messages l.mailbox) l.uids
    ≡ l.fn.out.items ++ lines_of l.tables.marks.mailbox_messages l.mailbox

abbrev pub decreases-uids : goal.decreases-uids
decreases-uids l = length l.uids
