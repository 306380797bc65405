use Rattle.std.proofs.Common.{ℕ, List, take, rules}
use Rattle.mailbox_core.proofs.Receiving.{no_users, plan_more}
use Rattle.mailbox_core.proofs.receivers.plan_delivery.Goals as goal

pub loop-user-init : goal.loop-user-init
loop-user-init c = search (rules, no_users)

pub loop-user-preserved : goal.loop-user-preserved
loop-user-preserved c =
    let users : List ℕ = c.args.users.now in
    let k : ℕ = c.loop-user.user-index in
    plan_more c.args.tables.now users k c.plan_user.new.plan.rows.items c.plan_user.new.plan.uids.items c.loop-user-test.true
    (c.in_ok-plan_user.ensures (take k users) c.loop-user.invariant)
