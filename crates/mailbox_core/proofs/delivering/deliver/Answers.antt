use Rattle.std.proofs.Common.{◌≡◌, ℕ, List, Option, map, inr, refl, sym, subst}
use Rattle.std.proofs.lemmas.Bool.{false≢true}
use Rattle.row_tables.specs.TableRows.{TableRows}
use Rattle.row_tables.specs.declared.heads.Mailbox.{Mailbox as Head}
use Rattle.row_store.specs.Holding.{in_row}
use Rattle.mail_world.specs.Changes.{Deliver}
use Rattle.mail_world.specs.Applying.{apply, refused}
use Rattle.mail_stands.specs.Stands.{AreWhole}
use Rattle.mail_stands.specs.Delivering.{uid_for}
use Rattle.mailbox_core.specs.Calls.{IsMade}
use Rattle.mailbox_core.specs.Delivering.{PlansDelivery, listed_answer}
use Rattle.mailbox_core.specs.declared.faults.MailFault.{MailFault}
use Rattle.mailbox_core.proofs.Arrived.{made_none}
use Rattle.mailbox_core.proofs.Behaving.{behaves_alone, error_of}
use Rattle.mailbox_core.proofs.Receiving.{all_told}
use Rattle.mailbox_core.proofs.delivering.deliver.Goals as goal

pub returns-in-Ok-clause-makes : goal.returns-in-Ok-clause-makes
unfolding refused
returns-in-Ok-clause-makes g c w stands =
    let t = c.args.store.now.tables in
    let users : List ℕ = c.args.users.now in
    let rows : List Head = c.in-Ok.plan.rows.items in
    let uids : List (Option ℕ) = c.in-Ok.plan.uids.items in
    let whole : AreWhole t = subst AreWhole c.tables.ensures (record { ordered = c.are_whole.ensures.ordered; closed = c.are_whole.ensures.closed; distinct = c.are_whole.ensures.distinct }) in
    let plan : PlansDelivery t users rows uids = subst (λ (u : TableRows). PlansDelivery u users rows uids) c.tables-2.ensures c.in-Ok.ensures in
    let told : uids ≡ map (uid_for w) users =
    all_told t w (λ user row named. c.deliver.ensures.free in_row t w user row whole stands named) (λ user. c.deliver.ensures.uids in_row t w user whole stands) users rows uids plan in
    subst (λ (answer : List (Option ℕ)). IsMade g.D.Disk.told (listed_answer c.deliver_planned.result) c.args.store.now c.deliver_planned.new.store w (apply w (Deliver users c.args.mail.now c.args.stamp c.args.taken.now)) answer) told
    (c.deliver_planned.ensures.made w users stands plan)

pub returns-in-Err-clause-makes : goal.returns-in-Err-clause-makes
unfolding refused
returns-in-Err-clause-makes g c w stands =
    made_none g.D.Disk.told MailFault.NoMemory (inr refl) c.args.store.now c.args.store.now (Unit {0}) (c.is_settled.ensures.stays c.requires.usable) w
    (apply w (Deliver c.args.users.now c.args.mail.now c.args.stamp c.args.taken.now)) (map (uid_for w) c.args.users.now) stands
