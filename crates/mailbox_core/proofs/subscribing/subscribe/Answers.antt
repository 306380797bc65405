use Rattle.std.proofs.Common.{◌≡◌, ◌∷◌, [], ℕ, List, None, refl, sym, subst}
use Rattle.std.proofs.lemmas.Bool.{false≢true}
use Rattle.row_tables.specs.TableRows.{TableRows}
use Rattle.row_tables.specs.Fits.{CanRun, Runs}
use Rattle.row_tables.specs.References.{AreClosed}
use Rattle.row_tables.specs.declared.change.RowChange.{RowChange}
use Rattle.row_store.specs.Holding.{in_row}
use Rattle.mail_world.specs.Names.{mailbox_name}
use Rattle.mail_world.specs.Changes.{Absent, BadName, Full, Subscribe}
use Rattle.mail_world.specs.Applying.{apply, refused}
use Rattle.mail_stands.specs.Leading.{Leads}
use Rattle.mail_stands.specs.Refusals.{subscribe_refused}
use Rattle.mail_stands.specs.RowChanges.{subscribe_changes}
use Rattle.mailbox_core.specs.Rooms.{PlansNone}
use Rattle.mailbox_core.proofs.Behaving.{behaves_alone, error_of}
use Rattle.mailbox_core.proofs.Planned.{no_fault, planned_made, planned_none, refuses_none}
use Rattle.mailbox_core.proofs.Subscribed.{subscribed_is_text, subscribed_placed}
use Rattle.mailbox_core.proofs.subscribing.subscribe.Goals as goal

pub returns-in-Err-clause-behaves : goal.returns-in-Err-clause-behaves
returns-in-Err-clause-behaves g c =
    behaves_alone g.D.Disk.told (error_of (Unit {0}) c.in-Err.fault) c.args.store.now (c.is_settled.ensures.stays c.requires.usable) (λ ok. false≢true ok)
    (no_fault {T = Unit {0}} (BadName ∷ Absent ∷ Full ∷ []) c.in-Err.fault c.in-Err.ensures.refuses)

pub returns-in-Err-clause-makes : goal.returns-in-Err-clause-makes
returns-in-Err-clause-makes g c w stands =
    let t = c.args.store.now.tables in
    let user : ℕ = c.args.user in
    let name = mailbox_name c.args.name.now in
    let next = apply w (Subscribe user c.args.name.now) in
    let closed : AreClosed t = subst AreClosed c.tables.ensures c.are_whole.ensures.closed in
    let none : PlansNone (Unit {0}) c.in-Err.fault (subscribe_refused t user name) =
    subst (λ (u : TableRows). PlansNone (Unit {0}) c.in-Err.fault (subscribe_refused u user name)) c.tables-2.ensures c.in-Err.ensures.none in
    planned_none g.D.Disk.told c.args.store.now w next tt (Unit {0}) (subscribe_changes t user name) c.in-Err.fault
    (subscribe_refused t user name) (refused w (Subscribe user c.args.name.now)) (c.is_settled.ensures.stays c.requires.usable)
    (c.subscribe.ensures.refusal in_row t w user c.args.name.now stands) none stands (λ e. (tt, c.subscribe.ensures.leads in_row t w user c.args.name.now closed stands e))

pub finish_any-requires-clause-fit : goal.finish_any-requires-clause-fit
finish_any-requires-clause-fit g c =
    let t = c.args.store.now.tables in
    let user : ℕ = c.args.user in
    let name = mailbox_name c.args.name.now in
    let are : c.in-Ok.changes.items ≡ subscribe_changes t user name = subst (λ (u : TableRows). c.in-Ok.changes.items ≡ subscribe_changes u user name) c.tables-2.ensures c.in-Ok.ensures.plan in
    let asked : subscribe_refused t user name ≡ None = subst (λ (u : TableRows). subscribe_refused u user name ≡ None) c.tables-2.ensures c.in-Ok.ensures.asked in
    subst (λ (l : List RowChange). CanRun t l) (sym are) (c.subscribe.ensures.fit t user name (subscribed_is_text t user name asked) c.requires.user)

pub finish_any-requires-clause-placed : goal.finish_any-requires-clause-placed
finish_any-requires-clause-placed g c = subscribed_placed c.tables-2.result.now c.args.user (mailbox_name c.args.name.now) c.args.store.now.placed c.in-Ok.changes.items c.in-Ok.ensures.plan

pub returns-in-Ok-clause-behaves : goal.returns-in-Ok-clause-behaves
returns-in-Ok-clause-behaves g c =
    let t = c.args.store.now.tables in
    let user : ℕ = c.args.user in
    let name = mailbox_name c.args.name.now in
    let are : c.in-Ok.changes.items ≡ subscribe_changes t user name = subst (λ (u : TableRows). c.in-Ok.changes.items ≡ subscribe_changes u user name) c.tables-2.ensures c.in-Ok.ensures.plan in
    let asked : subscribe_refused t user name ≡ None = subst (λ (u : TableRows). subscribe_refused u user name ≡ None) c.tables-2.ensures c.in-Ok.ensures.asked in
    let can : CanRun t (subscribe_changes t user name) = c.subscribe.ensures.fit t user name (subscribed_is_text t user name asked) c.requires.user in
    c.finish_any.ensures.behaves can.0 (subst (λ (l : List RowChange). Runs t l can.0) (sym are) can.1) (c.subscribe.ensures.owners t can.0 user name can.1)

pub returns-in-Ok-clause-makes : goal.returns-in-Ok-clause-makes
returns-in-Ok-clause-makes g c w stands =
    let t = c.args.store.now.tables in
    let user : ℕ = c.args.user in
    let name = mailbox_name c.args.name.now in
    let next = apply w (Subscribe user c.args.name.now) in
    let closed : AreClosed t = subst AreClosed c.tables.ensures c.are_whole.ensures.closed in
    let are : c.in-Ok.changes.items ≡ subscribe_changes t user name = subst (λ (u : TableRows). c.in-Ok.changes.items ≡ subscribe_changes u user name) c.tables-2.ensures c.in-Ok.ensures.plan in
    let asked : subscribe_refused t user name ≡ None = subst (λ (u : TableRows). subscribe_refused u user name ≡ None) c.tables-2.ensures c.in-Ok.ensures.asked in
    let leads : Leads in_row t c.in-Ok.changes.items next =
    subst (λ (l : List RowChange). Leads in_row t l next) (sym are) (c.subscribe.ensures.leads in_row t w user c.args.name.now closed stands asked) in
    planned_made g.D.Disk.told c.finish_any.result c.args.store.now c.finish_any.new.store w next tt tt
    (subscribe_refused t user name) (refused w (Subscribe user c.args.name.now)) (c.subscribe.ensures.refusal in_row t w user c.args.name.now stands) asked
    refl (c.finish_any.ensures.made w next stands leads)

pub returns-in-Ok-clause-refuses : goal.returns-in-Ok-clause-refuses
returns-in-Ok-clause-refuses g c = refuses_none (BadName ∷ Absent ∷ Full ∷ []) c.finish_any.result c.finish_any.ensures.outage
