use Rattle.std.proofs.Common.{◌≡◌, length, map}
use Rattle.std.specs.List.{list_any}
use Rattle.mail_stands.specs.Storing.{drops, ids_at, is_named_id}
use Rattle.mailbox_core.proofs.flag_tests.loses_any.Given as goal

-- The flags that are left tell what all tell.
abbrev pub invariant-rows : goal.invariant-rows
invariant-rows l = list_any (λ flag. drops l.how (is_named_id l.tables l.flags flag)) (map (λ r. r.flag) l.rows) ≡ list_any (λ flag. drops l.how (is_named_id l.tables l.flags flag)) (ids_at l.tables l.mailbox l.uid)

abbrev pub decreases-rows : goal.decreases-rows
decreases-rows l = length l.rows
