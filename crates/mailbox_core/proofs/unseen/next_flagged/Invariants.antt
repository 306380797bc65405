use Rattle.std.proofs.Common.{◌≡◌, length}
use Rattle.mailbox_core.specs.SummaryRows.{flagged_uids}
use Rattle.mailbox_core.proofs.unseen.next_flagged.Given as goal

abbrev pub invariant-flags : goal.invariant-flags
invariant-flags l = flagged_uids l.flag l.flags ≡ flagged_uids l.flag l.fn.flags

abbrev pub decreases-flags : goal.decreases-flags
decreases-flags l = length l.flags
