use Rattle.std.proofs.Common.{ℕ, Bool, List, is_some, ap, subst, ◌∙◌}
use Rattle.std.specs.List.{count_by, range_with_len}
use Rattle.std.specs.List.Sorted.{IsStrictlySortedBy}
use Rattle.std.specs.Ordering.{nat_cmp}
use Rattle.ordered_rows.specs.Listed.{row_at}
use Rattle.row_tables.specs.Keys.{mailbox_message_key, uid_key}
use Rattle.row_tables.specs.References.{uids_of}
use Rattle.mailbox_core.proofs.Tallied.{found_from}
use Rattle.mailbox_core.proofs.statuses.recent_count.Goals as goal

pub returns-then-from-entry_count : goal.returns-then-from-entry_count
returns-then-from-entry_count c below =
    let t = c.args.tables.now in
    let id : ℕ = c.args.mailbox in
    let there : ℕ → Bool = λ uid. is_some (row_at mailbox_message_key (uid_key id uid) t.marks.mailbox_messages) in
    let order : IsStrictlySortedBy nat_cmp (uids_of id t.marks.mailbox_messages) = subst (λ (l : List ℕ). IsStrictlySortedBy nat_cmp l) c.uids.ensures.uids c.uids.ensures.ascending in
    c.count_within.ensures ∙ (ap (λ n. count_by there (range_with_len c.args.row.now.first_recent n)) c.saturating_sub-given.ensures
    ∙ found_from t id c.args.row.now.first_recent c.args.row.now.uidnext order below)
