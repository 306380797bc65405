use Rattle.std.proofs.Common.{◌≡◌, ◌∷◌, [], ℕ, List, None, refl, sym, subst}
use Rattle.std.proofs.lemmas.Bool.{false≢true}
use Rattle.ordered_rows.specs.Listed.{IsInOrder}
use Rattle.row_tables.specs.Keys.{mailbox_key}
use Rattle.row_tables.specs.Names.{mailbox_named}
use Rattle.row_tables.specs.TableRows.{TableRows}
use Rattle.row_tables.specs.Fits.{CanRun, Runs}
use Rattle.row_tables.specs.declared.change.RowChange.{RowChange}
use Rattle.row_tables.specs.declared.change.RowChange.TheVariants.{DropMailbox}
use Rattle.row_store.specs.Bodies.{ArePlaced}
use Rattle.row_store.specs.Holding.{in_row}
use Rattle.mail_world.specs.Names.{mailbox_name}
use Rattle.mail_world.specs.Changes.{Absent, BadName, Delete, InUse}
use Rattle.mail_world.specs.Applying.{apply, refused}
use Rattle.mail_stands.specs.Leading.{Leads}
use Rattle.mail_stands.specs.Refusals.{delete_refused}
use Rattle.mail_stands.specs.RowChanges.{delete_changes}
use Rattle.mailbox_core.specs.Deleting.{KeepsHeld, id_in}
use Rattle.mailbox_core.specs.Rooms.{PlansNone}
use Rattle.mailbox_core.proofs.Behaving.{behaves_kept, behaves_still, error_of}
use Rattle.mailbox_core.proofs.Planned.{no_fault, planned_made, planned_none, refuses_none}
use Rattle.mailbox_core.proofs.Deleted.{Deletes, deleted_there, deletes, held_all, held_stay}
use Rattle.mailbox_core.proofs.deleting.delete.Goals as goal

pub returns-in-Err-clause-behaves : goal.returns-in-Err-clause-behaves
returns-in-Err-clause-behaves g c =
    behaves_still g.D.Disk.told (error_of (Unit {0}) c.in-Err.fault) c.args.store.now (c.is_settled.ensures.stays c.requires.usable) (λ ok. false≢true ok)
    (KeepsHeld c.args.user c.args.held.now) (held_all c.args.user c.args.held.now c.args.store.now.tables)
    (no_fault {T = Unit {0}} (BadName ∷ Absent ∷ InUse ∷ []) c.in-Err.fault c.in-Err.ensures.refuses)

pub returns-in-Err-clause-makes : goal.returns-in-Err-clause-makes
returns-in-Err-clause-makes g c w stands =
    let t = c.args.store.now.tables in
    let user : ℕ = c.args.user in
    let name = mailbox_name c.args.name.now in
    let held = c.args.held.now in
    let next = apply w (Delete user c.args.name.now held) in
    let none : PlansNone (Unit {0}) c.in-Err.fault (delete_refused t user name held) =
    subst (λ (u : TableRows). PlansNone (Unit {0}) c.in-Err.fault (delete_refused u user name held)) c.tables-2.ensures c.in-Err.ensures.none in
    let leads : delete_refused t user name held ≡ None → Unit {0} × Leads in_row t (DropMailbox (id_in (mailbox_named user name t.heads.mailboxes)) ∷ []) next =
    λ (e : delete_refused t user name held ≡ None).
    let its = deletes t user name held (DropMailbox (id_in (mailbox_named user name t.heads.mailboxes)) ∷ []) e refl in
    (tt, subst (λ (l : List RowChange). Leads in_row t l next) (sym its.are) (c.delete.ensures.leads in_row t w user c.args.name.now held its.row stands its.found e)) in
    planned_none g.D.Disk.told c.args.store.now w next tt (Unit {0}) (DropMailbox (id_in (mailbox_named user name t.heads.mailboxes)) ∷ []) c.in-Err.fault
    (delete_refused t user name held) (refused w (Delete user c.args.name.now held)) (c.is_settled.ensures.stays c.requires.usable)
    (c.delete.ensures.refusal in_row t w user c.args.name.now held stands) none stands leads

pub finish-requires-clause-fit : goal.finish-requires-clause-fit
finish-requires-clause-fit g c =
    let t = c.args.store.now.tables in
    let user : ℕ = c.args.user in
    let name = mailbox_name c.args.name.now in
    let held = c.args.held.now in
    let its : Deletes t user name held c.in-Ok.changes.items =
    subst (λ (u : TableRows). Deletes u user name held c.in-Ok.changes.items) c.tables-2.ensures (deletes c.tables-2.result.now user name held c.in-Ok.changes.items c.in-Ok.ensures.asked c.in-Ok.ensures.plan) in
    let ordered : IsInOrder mailbox_key t.heads.mailboxes = subst (λ (u : TableRows). IsInOrder mailbox_key u.heads.mailboxes) c.tables.ensures c.are_whole.ensures.ordered.mailboxes in
    subst (λ (l : List RowChange). CanRun t l) (sym its.are) (c.delete.ensures.fit t its.row (deleted_there t user name held c.insertion.ensures ordered its.row its.found))

pub finish-requires-clause-placed : goal.finish-requires-clause-placed
finish-requires-clause-placed g c = subst (λ (l : List RowChange). ArePlaced c.args.store.now.placed l) (sym c.in-Ok.ensures.plan) (tt, tt)

pub returns-in-Ok-clause-behaves : goal.returns-in-Ok-clause-behaves
returns-in-Ok-clause-behaves g c =
    let t = c.args.store.now.tables in
    let user : ℕ = c.args.user in
    let name = mailbox_name c.args.name.now in
    let held = c.args.held.now in
    let its : Deletes t user name held c.in-Ok.changes.items =
    subst (λ (u : TableRows). Deletes u user name held c.in-Ok.changes.items) c.tables-2.ensures (deletes c.tables-2.result.now user name held c.in-Ok.changes.items c.in-Ok.ensures.asked c.in-Ok.ensures.plan) in
    let ordered : IsInOrder mailbox_key t.heads.mailboxes = subst (λ (u : TableRows). IsInOrder mailbox_key u.heads.mailboxes) c.tables.ensures c.are_whole.ensures.ordered.mailboxes in
    let can : CanRun t (delete_changes its.row) = c.delete.ensures.fit t its.row (deleted_there t user name held c.insertion.ensures ordered its.row its.found) in
    behaves_kept (KeepsHeld user held) g.D.Disk.told c.finish.result c.args.store.now c.finish.new.store can.0
    (held_stay t user name held c.insertion.ensures ordered its.row its.found can.0 its.free (c.delete.ensures.others t can.0 its.row can.1))
    (c.finish.ensures.commits can.0 (subst (λ (l : List RowChange). Runs t l can.0) (sym its.are) can.1))

pub returns-in-Ok-clause-makes : goal.returns-in-Ok-clause-makes
returns-in-Ok-clause-makes g c w stands =
    let t = c.args.store.now.tables in
    let user : ℕ = c.args.user in
    let name = mailbox_name c.args.name.now in
    let held = c.args.held.now in
    let its : Deletes t user name held c.in-Ok.changes.items =
    subst (λ (u : TableRows). Deletes u user name held c.in-Ok.changes.items) c.tables-2.ensures (deletes c.tables-2.result.now user name held c.in-Ok.changes.items c.in-Ok.ensures.asked c.in-Ok.ensures.plan) in
    let next = apply w (Delete user c.args.name.now held) in
    let leads : Leads in_row t c.in-Ok.changes.items next =
    subst (λ (l : List RowChange). Leads in_row t l next) (sym its.are) (c.delete.ensures.leads in_row t w user c.args.name.now held its.row stands its.found its.asked) in
    planned_made g.D.Disk.told c.finish.result c.args.store.now c.finish.new.store w next tt tt
    (delete_refused t user name held) (refused w (Delete user c.args.name.now held)) (c.delete.ensures.refusal in_row t w user c.args.name.now held stands) its.asked
    refl (c.finish.ensures.made w next stands leads)

pub returns-in-Ok-clause-refuses : goal.returns-in-Ok-clause-refuses
returns-in-Ok-clause-refuses g c = refuses_none (BadName ∷ Absent ∷ InUse ∷ []) c.finish.result c.finish.ensures.outage
