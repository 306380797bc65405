use Rattle.std.proofs.Common.{◌≡◌, ◌∷◌, [], ℕ, List, None, sym, ◌∙◌, subst}
use Rattle.std.proofs.lemmas.Bool.{false≢true}
use Rattle.row_tables.specs.TableRows.{TableRows}
use Rattle.row_tables.specs.Fits.{CanRun, Runs}
use Rattle.row_tables.specs.declared.change.RowChange.{RowChange}
use Rattle.row_store.specs.Holding.{in_row}
use Rattle.mail_world.specs.Names.{created_name}
use Rattle.mail_world.specs.Changes.{BadName, Create, Exists, Full}
use Rattle.mail_world.specs.Applying.{apply, refused}
use Rattle.mail_stands.specs.Leading.{Leads}
use Rattle.mail_stands.specs.Refusals.{create_refused}
use Rattle.mail_stands.specs.RowChanges.{create_changes}
use Rattle.mailbox_core.specs.Rooms.{IsFreeMailbox, PlansNone}
use Rattle.mailbox_core.proofs.Behaving.{behaves_alone, error_of}
use Rattle.mailbox_core.proofs.Lengths.{created_is_text}
use Rattle.mailbox_core.proofs.Planned.{no_fault, planned_made, planned_none, refuses_none}
use Rattle.mailbox_core.proofs.adding.create.Goals as goal

pub returns-in-Err-clause-behaves : goal.returns-in-Err-clause-behaves
returns-in-Err-clause-behaves g c =
    behaves_alone g.D.Disk.told (error_of ℕ c.in-Err.fault) c.args.store.now (c.is_settled.ensures.stays c.requires.usable) (λ ok. false≢true ok)
    (no_fault {T = ℕ} (BadName ∷ Exists ∷ Full ∷ []) c.in-Err.fault c.in-Err.ensures.refuses)

pub returns-in-Err-clause-makes : goal.returns-in-Err-clause-makes
returns-in-Err-clause-makes g c w stands =
    let t = c.args.store.now.tables in
    let user = c.args.user in
    let name = created_name c.args.name.now in
    let next = apply w (Create user c.args.name.now) in
    let none : PlansNone (IsFreeMailbox t) c.in-Err.fault (create_refused t user name) =
    subst (λ (u : TableRows). PlansNone (IsFreeMailbox u) c.in-Err.fault (create_refused u user name)) c.tables.ensures c.in-Err.ensures.none in
    let leads : create_refused t user name ≡ None → IsFreeMailbox t × Leads in_row t (create_changes t user name) next =
    λ (e : create_refused t user name ≡ None). let l = c.create.ensures.leads in_row t w user c.args.name.now stands c.requires.user e in (l.runs.0.1, l) in
    planned_none g.D.Disk.told c.args.store.now w next w.next (IsFreeMailbox t) (create_changes t user name) c.in-Err.fault
    (create_refused t user name) (refused w (Create user c.args.name.now)) (c.is_settled.ensures.stays c.requires.usable) (c.create.ensures.refusal in_row t w user c.args.name.now stands) none stands leads

pub finish-requires-clause-fit : goal.finish-requires-clause-fit
finish-requires-clause-fit g c =
    let t = c.args.store.now.tables in
    let user = c.args.user in
    let name = created_name c.args.name.now in
    let are : c.in-Ok.plan.changes.items ≡ create_changes t user name =
    subst (λ (u : TableRows). c.in-Ok.plan.changes.items ≡ create_changes u user name) c.tables.ensures c.in-Ok.ensures.plan.1 in
    let free : IsFreeMailbox t = subst (λ (u : TableRows). IsFreeMailbox u) c.tables.ensures c.in-Ok.ensures.free in
    let asked : create_refused t user name ≡ None = subst (λ (u : TableRows). create_refused u user name ≡ None) c.tables.ensures c.in-Ok.ensures.asked in
    subst (λ (l : List RowChange). CanRun t l) (sym are) (c.create.ensures.fit t user name (created_is_text t user name asked) c.requires.user free)

pub returns-in-Ok-clause-behaves : goal.returns-in-Ok-clause-behaves
returns-in-Ok-clause-behaves g c =
    let t = c.args.store.now.tables in
    let user = c.args.user in
    let name = created_name c.args.name.now in
    let are : c.in-Ok.plan.changes.items ≡ create_changes t user name =
    subst (λ (u : TableRows). c.in-Ok.plan.changes.items ≡ create_changes u user name) c.tables.ensures c.in-Ok.ensures.plan.1 in
    let free : IsFreeMailbox t = subst (λ (u : TableRows). IsFreeMailbox u) c.tables.ensures c.in-Ok.ensures.free in
    let asked : create_refused t user name ≡ None = subst (λ (u : TableRows). create_refused u user name ≡ None) c.tables.ensures c.in-Ok.ensures.asked in
    let can : CanRun t (create_changes t user name) = c.create.ensures.fit t user name (created_is_text t user name asked) c.requires.user free in
    c.finish.ensures.behaves can.0 (subst (λ (l : List RowChange). Runs t l can.0) (sym are) can.1) (c.create.ensures.owners t can.0 user name can.1)

pub returns-in-Ok-clause-makes : goal.returns-in-Ok-clause-makes
returns-in-Ok-clause-makes g c w stands =
    let t = c.args.store.now.tables in
    let user = c.args.user in
    let name = created_name c.args.name.now in
    let next = apply w (Create user c.args.name.now) in
    let are : c.in-Ok.plan.changes.items ≡ create_changes t user name =
    subst (λ (u : TableRows). c.in-Ok.plan.changes.items ≡ create_changes u user name) c.tables.ensures c.in-Ok.ensures.plan.1 in
    let id : c.in-Ok.plan.answer ≡ t.heads.counters.next = subst (λ (u : TableRows). c.in-Ok.plan.answer ≡ u.heads.counters.next) c.tables.ensures c.in-Ok.ensures.plan.0 in
    let asked : create_refused t user name ≡ None = subst (λ (u : TableRows). create_refused u user name ≡ None) c.tables.ensures c.in-Ok.ensures.asked in
    let leads : Leads in_row t c.in-Ok.plan.changes.items next =
    subst (λ (l : List RowChange). Leads in_row t l next) (sym are) (c.create.ensures.leads in_row t w user c.args.name.now stands c.requires.user asked) in
    planned_made g.D.Disk.told c.finish.result c.args.store.now c.finish.new.store w next c.in-Ok.plan.answer w.next
    (create_refused t user name) (refused w (Create user c.args.name.now)) (c.create.ensures.refusal in_row t w user c.args.name.now stands) asked
    (id ∙ stands.next) (c.finish.ensures.made w next stands leads)

pub returns-in-Ok-clause-refuses : goal.returns-in-Ok-clause-refuses
returns-in-Ok-clause-refuses g c = refuses_none (BadName ∷ Exists ∷ Full ∷ []) c.finish.result c.finish.ensures.outage
