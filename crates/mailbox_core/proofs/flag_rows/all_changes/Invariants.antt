use Rattle.std.proofs.Common.{◌≡◌, ◌++◌, take}
use Rattle.std.specs.List.{flat_map}
use Rattle.mail_stands.specs.Storing.{message_changes}
use Rattle.mailbox_core.proofs.flag_rows.all_changes.Given as goal

-- The changes for the messages so far are behind the others.
abbrev pub invariant-loop-uid : goal.invariant-loop-uid
invariant-loop-uid l = l.changes.items ≡ l.fn.names.items ++ flat_map (message_changes l.tables l.mailbox l.how l.flags l.ids l.modseq) (take l.uid-index l.uids)
