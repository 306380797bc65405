use Rattle.std.proofs.Common.{◌≡◌, ◌++◌, length}
use Rattle.std.specs.Prelude.{flat_map}
use Rattle.row_tables.specs.declared.heads.Mailbox.{Mailbox}
use Rattle.admin_texts.specs.Mailboxes.{lines_of}
use Rattle.admin_texts.proofs.mailboxes.print_each.Given as goal

abbrev pub invariant-mailboxes : goal.invariant-mailboxes
invariant-mailboxes l =
    l.out.items ++ flat_map (λ (b : Mailbox). lines_of l.tables.marks.mailbox_messages b.id) l.mailboxes
    ≡ l.fn.out.items ++ flat_map (λ (b : Mailbox). lines_of l.tables.marks.mailbox_messages b.id) l.tables.heads.mailboxes

abbrev pub decreases-mailboxes : goal.decreases-mailboxes
decreases-mailboxes l = length l.mailboxes
