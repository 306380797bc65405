use Rattle.std.proofs.Common.{◌≡◌, ◌++◌, take}
use Rattle.std.specs.List.{flat_map}
use Rattle.mail_stands.specs.Delivering.{arrival_of}
use Rattle.mailbox_core.proofs.receivers.delivery_changes.Given as goal

-- The changes for the mailboxes so far are behind those of the mail.
abbrev pub invariant-loop-row : goal.invariant-loop-row
invariant-loop-row l = l.changes.items ≡ l.fn.mail.items ++ flat_map (arrival_of l.message l.stamp l.taken) (take l.row-index l.rows)
