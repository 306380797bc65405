use Rattle.std.proofs.Common.{◌≡◌, take}
use Rattle.mail_stands.specs.Storing.{added}
use Rattle.mailbox_core.proofs.flag_rows.added.Given as goal

abbrev pub invariant-loop-id : goal.invariant-loop-id
invariant-loop-id l = l.lacked.items ≡ added l.tables l.mailbox (take l.id-index l.ids) l.uid
