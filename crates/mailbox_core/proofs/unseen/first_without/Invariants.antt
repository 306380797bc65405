use Rattle.std.proofs.Common.{◌≡◌, ◌-◌, drop, length}
use Rattle.mailbox_core.specs.SummaryRows.{flagged_uids, parts_at}
use Rattle.mailbox_core.proofs.unseen.first_without.Given as goal

abbrev pub invariant-places : goal.invariant-places
invariant-places l = parts_at l.place (drop l.place l.uids) (flagged_uids l.flag l.flags) ≡ parts_at 0 l.uids (flagged_uids l.flag l.initial.flags)

abbrev pub decreases-places : goal.decreases-places
decreases-places l = length l.uids - l.place
