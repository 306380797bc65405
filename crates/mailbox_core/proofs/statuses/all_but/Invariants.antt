use Rattle.std.proofs.Common.{◌≡◌, ◌+◌, length}
use Rattle.mailbox_core.specs.SummaryRows.{flagged_uids}
use Rattle.mailbox_core.proofs.statuses.all_but.Given as goal

abbrev pub invariant-flags : goal.invariant-flags
invariant-flags l = l.left + length (flagged_uids l.flag l.fn.flags) ≡ l.all + length (flagged_uids l.flag l.flags)

abbrev pub decreases-flags : goal.decreases-flags
decreases-flags l = length (flagged_uids l.flag l.flags)
