use Rattle.std.proofs.Common.{◌≡◌, ◌∷◌, [], ℕ, List, None, refl, sym, subst}
use Rattle.std.proofs.lemmas.Bool.{false≢true}
use Rattle.row_tables.specs.TableRows.{TableRows}
use Rattle.row_tables.specs.Fits.{CanRun, Runs}
use Rattle.row_tables.specs.declared.change.RowChange.{RowChange}
use Rattle.row_store.specs.Bodies.{ArePlaced}
use Rattle.row_store.specs.Holding.{in_row}
use Rattle.mail_world.specs.Names.{mailbox_name}
use Rattle.mail_world.specs.Changes.{Absent, BadName, Unsubscribe}
use Rattle.mail_world.specs.Applying.{apply, refused}
use Rattle.mail_stands.specs.Leading.{Leads}
use Rattle.mail_stands.specs.Refusals.{unsubscribe_refused}
use Rattle.mail_stands.specs.RowChanges.{unsubscribe_changes}
use Rattle.mailbox_core.specs.Rooms.{PlansNone}
use Rattle.mailbox_core.proofs.Behaving.{behaves_alone, error_of}
use Rattle.mailbox_core.proofs.Planned.{no_fault, planned_made, planned_none, refuses_none}
use Rattle.mailbox_core.proofs.Subscribed.{unsubscribed_is_text, unsubscribed_there}
use Rattle.mailbox_core.proofs.subscribing.unsubscribe.Goals as goal

pub returns-in-Err-clause-behaves : goal.returns-in-Err-clause-behaves
returns-in-Err-clause-behaves g c =
    behaves_alone g.D.Disk.told (error_of (Unit {0}) c.in-Err.fault) c.args.store.now (c.is_settled.ensures.stays c.requires.usable) (λ ok. false≢true ok)
    (no_fault {T = Unit {0}} (BadName ∷ Absent ∷ []) c.in-Err.fault c.in-Err.ensures.refuses)

pub returns-in-Err-clause-makes : goal.returns-in-Err-clause-makes
returns-in-Err-clause-makes g c w stands =
    let t = c.args.store.now.tables in
    let user : ℕ = c.args.user in
    let name = mailbox_name c.args.name.now in
    let next = apply w (Unsubscribe user c.args.name.now) in
    let none : PlansNone (Unit {0}) c.in-Err.fault (unsubscribe_refused t user name) =
    subst (λ (u : TableRows). PlansNone (Unit {0}) c.in-Err.fault (unsubscribe_refused u user name)) c.tables.ensures c.in-Err.ensures.none in
    planned_none g.D.Disk.told c.args.store.now w next tt (Unit {0}) (unsubscribe_changes user name) c.in-Err.fault
    (unsubscribe_refused t user name) (refused w (Unsubscribe user c.args.name.now)) (c.is_settled.ensures.stays c.requires.usable)
    (c.unsubscribe.ensures.refusal in_row t w user c.args.name.now stands) none stands (λ e. (tt, c.unsubscribe.ensures.leads in_row t w user c.args.name.now stands e))

pub finish-requires-clause-fit : goal.finish-requires-clause-fit
finish-requires-clause-fit g c =
    let t = c.args.store.now.tables in
    let user : ℕ = c.args.user in
    let name = mailbox_name c.args.name.now in
    let are : c.in-Ok.changes.items ≡ unsubscribe_changes user name = c.in-Ok.ensures.plan in
    let asked : unsubscribe_refused t user name ≡ None = subst (λ (u : TableRows). unsubscribe_refused u user name ≡ None) c.tables.ensures c.in-Ok.ensures.asked in
    subst (λ (l : List RowChange). CanRun t l) (sym are) (c.unsubscribe.ensures.fit t user name (unsubscribed_is_text t user name asked) (unsubscribed_there t user name asked))

pub finish-requires-clause-placed : goal.finish-requires-clause-placed
finish-requires-clause-placed g c = subst (λ (l : List RowChange). ArePlaced c.args.store.now.placed l) (sym c.in-Ok.ensures.plan) (tt, tt)

pub returns-in-Ok-clause-behaves : goal.returns-in-Ok-clause-behaves
returns-in-Ok-clause-behaves g c =
    let t = c.args.store.now.tables in
    let user : ℕ = c.args.user in
    let name = mailbox_name c.args.name.now in
    let are : c.in-Ok.changes.items ≡ unsubscribe_changes user name = c.in-Ok.ensures.plan in
    let asked : unsubscribe_refused t user name ≡ None = subst (λ (u : TableRows). unsubscribe_refused u user name ≡ None) c.tables.ensures c.in-Ok.ensures.asked in
    let can : CanRun t (unsubscribe_changes user name) = c.unsubscribe.ensures.fit t user name (unsubscribed_is_text t user name asked) (unsubscribed_there t user name asked) in
    c.finish.ensures.behaves can.0 (subst (λ (l : List RowChange). Runs t l can.0) (sym are) can.1) (c.unsubscribe.ensures.owners t can.0 user name can.1)

pub returns-in-Ok-clause-makes : goal.returns-in-Ok-clause-makes
returns-in-Ok-clause-makes g c w stands =
    let t = c.args.store.now.tables in
    let user : ℕ = c.args.user in
    let name = mailbox_name c.args.name.now in
    let next = apply w (Unsubscribe user c.args.name.now) in
    let are : c.in-Ok.changes.items ≡ unsubscribe_changes user name = c.in-Ok.ensures.plan in
    let asked : unsubscribe_refused t user name ≡ None = subst (λ (u : TableRows). unsubscribe_refused u user name ≡ None) c.tables.ensures c.in-Ok.ensures.asked in
    let leads : Leads in_row t c.in-Ok.changes.items next =
    subst (λ (l : List RowChange). Leads in_row t l next) (sym are) (c.unsubscribe.ensures.leads in_row t w user c.args.name.now stands asked) in
    planned_made g.D.Disk.told c.finish.result c.args.store.now c.finish.new.store w next tt tt
    (unsubscribe_refused t user name) (refused w (Unsubscribe user c.args.name.now)) (c.unsubscribe.ensures.refusal in_row t w user c.args.name.now stands) asked
    refl (c.finish.ensures.made w next stands leads)

pub returns-in-Ok-clause-refuses : goal.returns-in-Ok-clause-refuses
returns-in-Ok-clause-refuses g c = refuses_none (BadName ∷ Absent ∷ []) c.finish.result c.finish.ensures.outage
