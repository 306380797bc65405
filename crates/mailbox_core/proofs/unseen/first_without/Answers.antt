use Rattle.std.proofs.Common.{◌∙◌}
use Rattle.mailbox_core.specs.SummaryRows.{flagged_uids}
use Rattle.mailbox_core.proofs.Parting.{parts_here}
use Rattle.mailbox_core.proofs.unseen.first_without.Goals as goal

pub returns-in_default : goal.returns-in_default
returns-in_default c =
    parts_here c.places.place c.args.uids.now (flagged_uids c.args.flag c.places.flags) c.places-test.true c.in_default.ensures ∙ c.places.invariant
