use Rattle.std.proofs.Common.{◌≡◌, take}
use Rattle.mail_stands.specs.Expunging.{there_of}
use Rattle.mailbox_core.proofs.gone_rows.there_of.Given as goal

abbrev pub invariant-loop-uid : goal.invariant-loop-uid
invariant-loop-uid l = l.there.items ≡ there_of l.tables l.mailbox (take l.uid-index l.uids)
