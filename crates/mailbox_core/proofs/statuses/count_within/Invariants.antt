use Rattle.std.proofs.Common.{◌≡◌, ◌≤◌, ◌-◌, is_some}
use Rattle.std.specs.List.{count_by, range_with_len}
use Rattle.ordered_rows.specs.Listed.{row_at}
use Rattle.row_tables.specs.Keys.{mailbox_message_key, uid_key}
use Rattle.mailbox_core.proofs.statuses.count_within.Given as goal

abbrev pub invariant-uids : goal.invariant-uids
invariant-uids l = record {
  within : l.passed ≤ l.given;
  few : l.count ≤ l.passed;
  counted : l.count ≡ count_by (λ uid. is_some (row_at mailbox_message_key (uid_key l.mailbox uid) l.tables.marks.mailbox_messages)) (range_with_len l.first l.passed);
}

abbrev pub decreases-uids : goal.decreases-uids
decreases-uids l = l.given - l.passed
