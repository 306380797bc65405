use Rattle.std.proofs.Common.{◌≡◌, List, ℕ, ◌++◌, OnOk, subst}
use Rattle.admin_texts.proofs.Spread.{all_lines}
use Rattle.admin_texts.proofs.mailboxes.print_mailboxes.Goals as goal

pub returns : goal.returns
returns c =
    let t = c.args.tables.now in
    subst (λ (l : List ℕ). OnOk c.print_each.result (c.print_each.new.out.items ≡ c.args.out.now.items ++ l))
    (all_lines t c.are_whole.ensures.ordered c.are_whole.ensures.closed (c.rows_at_keys.ensures t.marks.mailbox_messages c.are_whole.ensures.ordered.mailbox_messages)) c.print_each.ensures
