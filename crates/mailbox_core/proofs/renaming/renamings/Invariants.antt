use Rattle.std.specs.Option.{option_copied}
use Rattle.mailbox_core.proofs.Renames.{Gathers}
use Rattle.mailbox_core.proofs.FollowedNames.{left_of}
use Rattle.mailbox_core.proofs.renaming.renamings.Given as goal

abbrev pub invariant-rows : goal.invariant-rows
invariant-rows l = Gathers l.tables l.owner l.from l.to l.changes.items (option_copied l.next)

abbrev pub decreases-rows : goal.decreases-rows
decreases-rows l = left_of l.tables l.owner (option_copied l.next)
