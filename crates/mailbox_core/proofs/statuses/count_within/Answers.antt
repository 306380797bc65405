use Rattle.std.proofs.Common.{◌+◌, ℕ, Bool, is_some, sym, ap, ◌∙◌, arith}
use Rattle.std.specs.List.{count_by, range_with_len}
use Rattle.ordered_rows.specs.Listed.{row_at}
use Rattle.row_tables.specs.Keys.{mailbox_message_key, uid_key}
use Rattle.mailbox_core.proofs.Tallied.{one_at_most, range_more}
use Rattle.mailbox_core.proofs.statuses.count_within.Goals as goal

pub uids-preserved : goal.uids-preserved
uids-preserved c =
    let there : ℕ → Bool = λ uid. is_some (row_at mailbox_message_key (uid_key c.args.mailbox uid) c.args.tables.now.marks.mailbox_messages) in
    let most = one_at_most (there (c.args.first + c.uids.passed)) in
    let found = c.found_at-count.ensures in
    record {
      within = omega arith;
      few = omega (arith, most, found, c.uids.invariant.few);
      counted =
          ap (λ n. n + c.found_at-count.result) c.uids.invariant.counted
          ∙ (ap (λ n. count_by there (range_with_len c.args.first c.uids.passed) + n) c.found_at-count.ensures ∙ sym (range_more there c.args.first c.uids.passed));
    }
