use Rattle.std.proofs.Common.{◌≡◌, ◌+◌, length}
use Rattle.mail_world.specs.Limits.{most_flags}
use Rattle.mail_stands.specs.Storing.{ids_at}
use Rattle.mailbox_core.proofs.flag_tests.room_at.Given as goal

abbrev pub invariant-rows : goal.invariant-rows
invariant-rows l = l.room + length (ids_at l.tables l.mailbox l.uid) ≡ most_flags + length l.rows

abbrev pub decreases-rows : goal.decreases-rows
decreases-rows l = length l.rows
