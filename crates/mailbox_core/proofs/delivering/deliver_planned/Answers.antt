use Rattle.std.proofs.Common.{◌≡◌, ℕ, List, [], length, Option, refl, sym, ap, subst, ◌∙◌}
use Rattle.std.proofs.lemmas.Bool.{true≢false, eqb-true, eq-eqb}
use Rattle.row_tables.specs.TableRows.{TableRows}
use Rattle.row_tables.specs.declared.heads.Mailbox.{Mailbox as Head}
use Rattle.row_store.specs.Holding.{in_row}
use Rattle.mail_world.specs.Changes.{Deliver}
use Rattle.mail_world.specs.Applying.{apply}
use Rattle.mail_stands.specs.Stands.{AreWhole}
use Rattle.mail_stands.specs.Delivering.{AreAll, AreReceivers}
use Rattle.mailbox_core.specs.Delivering.{PlansDelivery}
use Rattle.mailbox_core.specs.Faults.{fault_in}
use Rattle.mailbox_core.proofs.Deliveries.{behaves_fault, behaves_with, made_fault, made_with}
use Rattle.mailbox_core.proofs.Receiving.{all_open, none_there, some_told}
use Rattle.mailbox_core.proofs.StoredCalls.{behaves_same, made_same}
use Rattle.mailbox_core.proofs.delivering.deliver_planned.Goals as goal

pub returns-then-is_empty-clause-made : goal.returns-then-is_empty-clause-made
returns-then-is_empty-clause-made g c w users stands plan =
    let t = c.args.store.now.tables in
    let rows : List Head = c.args.plan.rows.items in
    let uids : List (Option ℕ) = c.args.plan.uids.items in
    let whole : AreWhole t = subst AreWhole c.tables.ensures (record { ordered = c.are_whole.ensures.ordered; closed = c.are_whole.ensures.closed; distinct = c.are_whole.ensures.distinct }) in
    let none : rows ≡ [] = none_there rows (sym c.args.plan.rows.ok.0 ∙ eqb-true _ _ (sym c.is_empty.ensures ∙ c.if-is_empty.true)) in
    let all : AreAll t users rows = all_open t w (λ user row named. c.deliver.ensures.free in_row t w user row whole stands named) users rows uids plan in
    made_same g.D.Disk.told c.args.store.now uids (c.is_settled.ensures.stays c.requires.usable) w (apply w (Deliver users c.args.mail.now c.args.stamp c.args.taken.now)) stands
    (c.deliver.ensures.stays in_row t w users c.args.stamp c.args.mail.now c.args.taken.now whole stands (subst (λ (l : List Head). AreAll t users l) none all))

pub returns-in-Ok-clause-made : goal.returns-in-Ok-clause-made
returns-in-Ok-clause-made g c w users stands plan =
    let t = c.args.store.now.tables in
    let rows : List Head = c.args.plan.rows.items in
    let whole : AreWhole t = subst AreWhole c.tables.ensures (record { ordered = c.are_whole.ensures.ordered; closed = c.are_whole.ensures.closed; distinct = c.are_whole.ensures.distinct }) in
    let all : AreAll t users rows = all_open t w (λ user row named. c.deliver.ensures.free in_row t w user row whole stands named) users rows c.args.plan.uids.items plan in
    made_with g.D.Disk.told c.args.store.now c.commit_delivery.new.store tt c.args.plan.uids.items w (apply w (Deliver users c.args.mail.now c.args.stamp c.args.taken.now))
    (c.in-Ok.ensures.made w users stands (subst (λ (l : List Head). AreReceivers t users l) (sym c.as_slice.ensures.value) plan.are) (subst (λ (l : List Head). AreAll t users l) (sym c.as_slice.ensures.value) all))

pub returns-in-Ok-clause-untaken : goal.returns-in-Ok-clause-untaken
returns-in-Ok-clause-untaken g c none =
    absurd (some_told c.args.store.now.tables c.requires.planned.0 c.args.plan.rows.items c.args.plan.uids.items
    (λ empty. true≢false (sym (eq-eqb _ _ (c.args.plan.rows.ok.0 ∙ ap length empty)) ∙ (sym c.is_empty.ensures ∙ c.if-is_empty.false))) c.requires.planned.1 none)

pub returns-clause-made : goal.returns-clause-made
returns-clause-made g c w users stands plan =
    let t = c.args.store.now.tables in
    let rows : List Head = c.args.plan.rows.items in
    let whole : AreWhole t = subst AreWhole c.tables.ensures (record { ordered = c.are_whole.ensures.ordered; closed = c.are_whole.ensures.closed; distinct = c.are_whole.ensures.distinct }) in
    let all : AreAll t users rows = all_open t w (λ user row named. c.deliver.ensures.free in_row t w user row whole stands named) users rows c.args.plan.uids.items plan in
    made_fault g.D.Disk.told c.args.store.now c.commit_delivery.new.store (fault_in c.in-Err.fault) tt c.args.plan.uids.items w (apply w (Deliver users c.args.mail.now c.args.stamp c.args.taken.now))
    (c.in-Err.ensures.made w users stands (subst (λ (l : List Head). AreReceivers t users l) (sym c.as_slice.ensures.value) plan.are) (subst (λ (l : List Head). AreAll t users l) (sym c.as_slice.ensures.value) all))
