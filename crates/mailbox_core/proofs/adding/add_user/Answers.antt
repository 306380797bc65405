use Rattle.std.proofs.Common.{◌≡◌, ◌+◌, ◌∷◌, [], ℕ, List, length, None, sym, ◌∙◌, ap, subst}
use Rattle.std.proofs.lemmas.Bool.{false≢true}
use Rattle.row_tables.specs.TableRows.{TableRows}
use Rattle.row_tables.specs.Fits.{CanRun, Runs}
use Rattle.row_tables.specs.declared.change.RowChange.{RowChange}
use Rattle.row_tables.specs.declared.heads.User.{User}
use Rattle.row_store.specs.Holding.{in_row}
use Rattle.mail_world.specs.Changes.{AddUser, Exists, Full}
use Rattle.mail_world.specs.Applying.{apply, refused}
use Rattle.mail_world.specs.Users.{new_user_id}
use Rattle.mail_world.specs.Looking.{verifier_of}
use Rattle.mail_stands.specs.Leading.{Leads}
use Rattle.mail_stands.specs.Refusals.{add_user_refused}
use Rattle.mail_stands.specs.RowChanges.{add_user_changes}
use Rattle.mailbox_core.specs.Rooms.{IsFreeMailbox, IsFreeUser, PlansNone}
use Rattle.mailbox_core.proofs.Behaving.{behaves_alone, error_of}
use Rattle.mailbox_core.proofs.Planned.{no_fault, planned_made, planned_none, refuses_none}
use Rattle.mailbox_core.proofs.Lengths.{name_is_text}
use Rattle.mailbox_core.proofs.adding.add_user.Goals as goal

pub returns-in-Err-clause-behaves : goal.returns-in-Err-clause-behaves
returns-in-Err-clause-behaves g c =
    behaves_alone g.D.Disk.told (error_of ℕ c.in-Err.fault) c.args.store.now (c.is_settled.ensures.stays c.requires.usable) (λ ok. false≢true ok)
    (no_fault {T = ℕ} (Exists ∷ Full ∷ []) c.in-Err.fault c.in-Err.ensures.refuses)

pub returns-in-Err-clause-makes : goal.returns-in-Err-clause-makes
returns-in-Err-clause-makes g c w stands =
    let t = c.args.store.now.tables in
    let name = c.args.name.now in
    let verifier = verifier_of c.args.name.now c.args.password.now in
    let none : PlansNone (IsFreeUser t × IsFreeMailbox t) c.in-Err.fault (add_user_refused t name) =
    subst (λ (u : TableRows). PlansNone (IsFreeUser u × IsFreeMailbox u) c.in-Err.fault (add_user_refused u name)) c.tables.ensures c.in-Err.ensures.none in
    let leads : add_user_refused t name ≡ None → (IsFreeUser t × IsFreeMailbox t) × Leads in_row t (add_user_changes t name verifier) (apply w (AddUser name verifier)) =
    λ (e : add_user_refused t name ≡ None). let l = c.add_user.ensures.leads in_row t w name verifier stands e in ((l.runs.0.1, l.runs.1.0.1), l) in
    planned_none g.D.Disk.told c.args.store.now w (apply w (AddUser name verifier)) (new_user_id w) (IsFreeUser t × IsFreeMailbox t) (add_user_changes t name verifier) c.in-Err.fault
    (add_user_refused t name) (refused w (AddUser name verifier)) (c.is_settled.ensures.stays c.requires.usable) (c.add_user.ensures.refusal in_row t w name verifier stands) none stands leads

pub finish-requires-clause-fit : goal.finish-requires-clause-fit
finish-requires-clause-fit g c =
    let t = c.args.store.now.tables in
    let name = c.args.name.now in
    let verifier = verifier_of c.args.name.now c.args.password.now in
    let are : c.in-Ok.plan.changes.items ≡ add_user_changes t name verifier =
    subst (λ (u : TableRows). c.in-Ok.plan.changes.items ≡ add_user_changes u name verifier) c.tables.ensures c.in-Ok.ensures.plan.1 in
    let free : IsFreeUser t × IsFreeMailbox t = subst (λ (u : TableRows). IsFreeUser u × IsFreeMailbox u) c.tables.ensures c.in-Ok.ensures.free in
    subst (λ (l : List RowChange). CanRun t l) (sym are) (c.add_user.ensures.fit t name verifier (name_is_text name c.requires.named) free.0 free.1)

pub returns-in-Ok-clause-behaves : goal.returns-in-Ok-clause-behaves
returns-in-Ok-clause-behaves g c =
    let t = c.args.store.now.tables in
    let name = c.args.name.now in
    let verifier = verifier_of c.args.name.now c.args.password.now in
    let are : c.in-Ok.plan.changes.items ≡ add_user_changes t name verifier =
    subst (λ (u : TableRows). c.in-Ok.plan.changes.items ≡ add_user_changes u name verifier) c.tables.ensures c.in-Ok.ensures.plan.1 in
    let free : IsFreeUser t × IsFreeMailbox t = subst (λ (u : TableRows). IsFreeUser u × IsFreeMailbox u) c.tables.ensures c.in-Ok.ensures.free in
    let can : CanRun t (add_user_changes t name verifier) = c.add_user.ensures.fit t name verifier (name_is_text name c.requires.named) free.0 free.1 in
    c.finish.ensures.behaves can.0 (subst (λ (l : List RowChange). Runs t l can.0) (sym are) can.1) (c.add_user.ensures.owners t can.0 name verifier can.1)

pub returns-in-Ok-clause-makes : goal.returns-in-Ok-clause-makes
returns-in-Ok-clause-makes g c w stands =
    let t = c.args.store.now.tables in
    let name = c.args.name.now in
    let verifier = verifier_of c.args.name.now c.args.password.now in
    let next = apply w (AddUser name verifier) in
    let are : c.in-Ok.plan.changes.items ≡ add_user_changes t name verifier =
    subst (λ (u : TableRows). c.in-Ok.plan.changes.items ≡ add_user_changes u name verifier) c.tables.ensures c.in-Ok.ensures.plan.1 in
    let id : c.in-Ok.plan.answer ≡ length t.heads.users + 1 = subst (λ (u : TableRows). c.in-Ok.plan.answer ≡ length u.heads.users + 1) c.tables.ensures c.in-Ok.ensures.plan.0 in
    let asked : add_user_refused t name ≡ None = subst (λ (u : TableRows). add_user_refused u name ≡ None) c.tables.ensures c.in-Ok.ensures.asked in
    let leads : Leads in_row t c.in-Ok.plan.changes.items next =
    subst (λ (l : List RowChange). Leads in_row t l next) (sym are) (c.add_user.ensures.leads in_row t w name verifier stands asked) in
    planned_made g.D.Disk.told c.finish.result c.args.store.now c.finish.new.store w next c.in-Ok.plan.answer (new_user_id w)
    (add_user_refused t name) (refused w (AddUser name verifier)) (c.add_user.ensures.refusal in_row t w name verifier stands) asked
    (id ∙ ap (λ (users : List User). length users + 1) stands.users) (c.finish.ensures.made w next stands leads)

pub returns-in-Ok-clause-refuses : goal.returns-in-Ok-clause-refuses
returns-in-Ok-clause-refuses g c = refuses_none (Exists ∷ Full ∷ []) c.finish.result c.finish.ensures.outage
