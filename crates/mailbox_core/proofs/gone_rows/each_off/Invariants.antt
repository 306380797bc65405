use Rattle.std.proofs.Common.{◌≡◌, take}
use Rattle.std.specs.List.{flat_map}
use Rattle.row_tables.specs.References.{flags_at}
use Rattle.mail_stands.specs.MovingInbox.{flag_row_removals}
use Rattle.mailbox_core.proofs.gone_rows.each_off.Given as goal

abbrev pub invariant-loop-uid : goal.invariant-loop-uid
invariant-loop-uid l = l.changes.items ≡ flat_map (λ uid. flag_row_removals (flags_at l.mailbox uid l.tables.marks.flags)) (take l.uid-index l.uids)
