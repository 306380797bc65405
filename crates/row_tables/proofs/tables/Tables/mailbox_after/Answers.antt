use Rattle.std.proofs.Common.{◌≡◌, ℕ, List, None, sym, ap, subst, ◌∙◌}
use Rattle.std.specs.List.{find}
use Rattle.std.specs.Option.{option_copied}
use Rattle.ordered_rows.specs.RowKey.{RowKey}
use Rattle.ordered_rows.specs.Listed.{is_from}
use Rattle.row_tables.specs.Names.{IsNextMailbox, mailbox_is_after, mailbox_named, name_entry_key}
use Rattle.row_tables.specs.TableRows.{HeadRows, TableRows}
use Rattle.row_tables.proofs.Following.{next_none, next_some}
use Rattle.row_tables.proofs.tables.Tables.mailbox_after.Goals as goal

pub returns-in-Some : goal.returns-in-Some
returns-in-Some c =
    let names = c.heads.inside.mailbox_names in
    let rows_are = ap (λ (h : HeadRows). h.mailboxes) c.heads.view_is ∙ ap (λ (t : TableRows). t.heads.mailboxes) c.self.view_is in
    let found = sym (c.in-Some.ensures ∙ ap (λ (k : RowKey). find (is_from name_entry_key k) names) c.after.ensures) in
    subst (λ l. IsNextMailbox c.args.owner c.args.name.now l (option_copied c.mailbox_named.result)) rows_are
    (next_some c.args.owner c.args.name.now names c.heads.inside.mailboxes c.rows.ensures.order c.heads.invariant.1 c.in-Some.entry.now found (option_copied c.mailbox_named.result)
    (c.mailbox_named.ensures ∙ ap (λ (n : List ℕ). mailbox_named c.args.owner n c.args.self.now.heads.mailboxes) c.as_slice.ensures ∙ ap (mailbox_named c.args.owner c.in-Some.entry.now.name) (sym rows_are)))

pub returns-in-None : goal.returns-in-None
returns-in-None c =
    let names = c.heads.inside.mailbox_names in
    let rows_are = ap (λ (h : HeadRows). h.mailboxes) c.heads.view_is ∙ ap (λ (t : TableRows). t.heads.mailboxes) c.self.view_is in
    let none = sym (c.in-None.ensures ∙ ap (λ (k : RowKey). find (is_from name_entry_key k) names) c.after.ensures) in
    subst (λ l. find (mailbox_is_after c.args.owner c.args.name.now) l ≡ None) rows_are
    (next_none c.args.owner c.args.name.now names c.heads.inside.mailboxes c.rows.ensures.order c.heads.invariant.1 none)
