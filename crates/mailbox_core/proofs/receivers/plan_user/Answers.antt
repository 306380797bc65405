use Rattle.std.proofs.Common.{◌≡◌, ◌∷◌, ◌++◌, [], ℕ, List, Option, Some, None, sym, ap, ◌∙◌, subst}
use Rattle.row_tables.specs.declared.heads.Mailbox.{Mailbox as Head}
use Rattle.mailbox_core.specs.Delivering.{PlansDelivery, receiver, with_receiver}
use Rattle.mailbox_core.proofs.Receiving.{with_none, with_some}
use Rattle.mailbox_core.proofs.receivers.plan_user.Goals as goal

pub returns-in_ok-add_once-in-Some : goal.returns-in_ok-add_once-in-Some
returns-in_ok-add_once-in-Some c users plan =
    let t = c.args.tables.now in
    let user : ℕ = c.args.user in
    let row : Head = c.in-Some.row.now in
    subst (λ (rows : List Head). PlansDelivery t (users ++ user ∷ []) rows c.push.new.self.items) (sym c.in_ok-add_once-in-Some.ensures)
    (with_some t users user c.args.plan.now.rows.items c.args.plan.now.uids.items plan c.push.new.self.items row (sym c.in-Some.ensures) c.in_ok-push-in-Some.ensures.items)

pub returns-in_ok-push-in-None : goal.returns-in_ok-push-in-None
returns-in_ok-push-in-None c users plan =
    let t = c.args.tables.now in
    with_none t users c.args.user c.args.plan.now.rows.items c.args.plan.now.uids.items plan c.push-in-None.new.self.items (sym c.in-None.ensures) c.in_ok-push-in-None.ensures.items
