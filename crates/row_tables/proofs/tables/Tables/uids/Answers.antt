use Rattle.std.proofs.Common.{List, map, ap, sym, subst, ◌∙◌}
use Rattle.std.specs.Ordering.{nat_cmp}
use Rattle.std.specs.List.Sorted.{IsStrictlySortedBy}
use Rattle.row_tables.specs.declared.marks.MailboxMessage.{MailboxMessage}
use Rattle.row_tables.proofs.Ascending.{uids_ascend}
use Rattle.row_tables.proofs.tables.Tables.uids.Goals as goal

pub returns-clause-ascending : goal.returns-clause-ascending
returns-clause-ascending c =
    subst (IsStrictlySortedBy nat_cmp) (sym (c.of.ensures ∙ ap (λ (rows : List MailboxMessage). map (λ (r : MailboxMessage). r.uid) rows) c.numbered.ensures))
    (uids_ascend c.args.mailbox c.marks.inside.mailbox_messages c.rows.ensures.order)
