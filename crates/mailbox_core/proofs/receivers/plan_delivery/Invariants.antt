use Rattle.std.proofs.Common.{take}
use Rattle.mailbox_core.specs.Delivering.{PlansDelivery}
use Rattle.mailbox_core.proofs.receivers.plan_delivery.Given as goal

-- The plan is that of the users so far.
abbrev pub invariant-loop-user : goal.invariant-loop-user
invariant-loop-user l = PlansDelivery l.tables (take l.user-index l.users) l.plan.rows.items l.plan.uids.items
