use Rattle.std.proofs.Common.{◌≡◌, ℕ, List, [], ◌∷◌, None, refl, sym, subst}
use Rattle.std.proofs.lemmas.Bool.{false≢true}
use Rattle.row_tables.specs.Names.{mailbox_named}
use Rattle.row_tables.specs.TableRows.{TableRows}
use Rattle.row_tables.specs.Fits.{CanRun, Runs}
use Rattle.row_tables.specs.declared.heads.Mailbox.{Mailbox}
use Rattle.row_tables.specs.declared.change.RowChange.{RowChange}
use Rattle.row_store.specs.Bodies.{ArePlaced}
use Rattle.row_store.specs.Holding.{in_row}
use Rattle.mail_world.specs.Names.{inbox, mailbox_name}
use Rattle.mail_world.specs.Changes.{Absent, BadName, Exists, Full, Rename}
use Rattle.mail_world.specs.Applying.{apply, refused}
use Rattle.mail_stands.specs.Stands.{AreWhole}
use Rattle.mail_stands.specs.Leading.{KeepsOwners, Leads}
use Rattle.mail_stands.specs.MovingInbox.{rename_inbox_changes, rename_inbox_refused}
use Rattle.mailbox_core.specs.MovingInbox.{IsMovable, PlansMoving}
use Rattle.mailbox_core.specs.Rooms.{PlansNone}
use Rattle.mailbox_core.proofs.Behaving.{behaves_alone, error_of}
use Rattle.mailbox_core.proofs.MovedInbox.{changes_of, led, moving_placed}
use Rattle.mailbox_core.proofs.Planned.{no_fault, planned_made, planned_none, refuses_none}
use Rattle.mailbox_core.proofs.inbox_renaming.rename_inbox.Goals as goal

pub finish-requires-clause-fit : goal.finish-requires-clause-fit
finish-requires-clause-fit g c =
    let t = c.args.store.now.tables in
    let user : ℕ = c.args.user in
    let to = c.args.to.now in
    let name = mailbox_name to in
    let whole : AreWhole t = subst AreWhole c.tables.ensures (record { ordered = c.are_whole.ensures.ordered; closed = c.are_whole.ensures.closed; distinct = c.are_whole.ensures.distinct }) in
    let planned : PlansMoving t user name c.in-Ok.changes.items =
    subst (λ (n : List ℕ). PlansMoving t user n c.in-Ok.changes.items) c.canonical_name.ensures (subst (λ (u : TableRows). PlansMoving u user c.canonical_name.result.now c.in-Ok.changes.items) c.tables-2.ensures c.in-Ok.ensures.plan) in
    let row = planned.row in
    subst (λ (l : List RowChange). CanRun t l) (sym planned.are) (c.rename_inbox.ensures.fit t name row whole planned.can)

pub finish-requires-clause-placed : goal.finish-requires-clause-placed
finish-requires-clause-placed g c =
    let t = c.args.store.now.tables in
    let user : ℕ = c.args.user in
    let to = c.args.to.now in
    let name = mailbox_name to in
    let whole : AreWhole t = subst AreWhole c.tables.ensures (record { ordered = c.are_whole.ensures.ordered; closed = c.are_whole.ensures.closed; distinct = c.are_whole.ensures.distinct }) in
    let planned : PlansMoving t user name c.in-Ok.changes.items =
    subst (λ (n : List ℕ). PlansMoving t user n c.in-Ok.changes.items) c.canonical_name.ensures (subst (λ (u : TableRows). PlansMoving u user c.canonical_name.result.now c.in-Ok.changes.items) c.tables-2.ensures c.in-Ok.ensures.plan) in
    let row = planned.row in
    subst (λ (l : List RowChange). ArePlaced c.args.store.now.placed l) (sym planned.are) (moving_placed c.args.store.now.placed t name row)

pub returns-in-Ok-clause-behaves : goal.returns-in-Ok-clause-behaves
returns-in-Ok-clause-behaves g c =
    let t = c.args.store.now.tables in
    let user : ℕ = c.args.user in
    let to = c.args.to.now in
    let name = mailbox_name to in
    let whole : AreWhole t = subst AreWhole c.tables.ensures (record { ordered = c.are_whole.ensures.ordered; closed = c.are_whole.ensures.closed; distinct = c.are_whole.ensures.distinct }) in
    let planned : PlansMoving t user name c.in-Ok.changes.items =
    subst (λ (n : List ℕ). PlansMoving t user n c.in-Ok.changes.items) c.canonical_name.ensures (subst (λ (u : TableRows). PlansMoving u user c.canonical_name.result.now c.in-Ok.changes.items) c.tables-2.ensures c.in-Ok.ensures.plan) in
    let row = planned.row in
    let can : CanRun t (rename_inbox_changes t name row) = c.rename_inbox.ensures.fit t name row whole planned.can in
    let owners : KeepsOwners t can.0 = c.rename_inbox.ensures.owners t can.0 name row whole planned.can can.1 in
    c.finish.ensures.behaves can.0 (subst (λ (l : List RowChange). Runs t l can.0) (sym planned.are) can.1) owners

pub returns-in-Ok-clause-makes : goal.returns-in-Ok-clause-makes
returns-in-Ok-clause-makes g c w from stands is =
    let t = c.args.store.now.tables in
    let user : ℕ = c.args.user in
    let to = c.args.to.now in
    let name = mailbox_name to in
    let whole : AreWhole t = subst AreWhole c.tables.ensures (record { ordered = c.are_whole.ensures.ordered; closed = c.are_whole.ensures.closed; distinct = c.are_whole.ensures.distinct }) in
    let planned : PlansMoving t user name c.in-Ok.changes.items =
    subst (λ (n : List ℕ). PlansMoving t user n c.in-Ok.changes.items) c.canonical_name.ensures (subst (λ (u : TableRows). PlansMoving u user c.canonical_name.result.now c.in-Ok.changes.items) c.tables-2.ensures c.in-Ok.ensures.plan) in
    let row = planned.row in
    let next = apply w (Rename user from to) in
    let leads : Leads in_row t c.in-Ok.changes.items next =
    subst (λ (l : List RowChange). Leads in_row t l next) (sym planned.are) (c.rename_inbox.ensures.leads in_row t w user from to row whole stands is planned.may.found planned.may.room) in
    planned_made g.D.Disk.told c.finish.result c.args.store.now c.finish.new.store w next tt tt
    (rename_inbox_refused t user name) (refused w (Rename user from to)) (c.rename_inbox.ensures.refusal in_row t w user from to whole stands is) planned.may.room
    refl (c.finish.ensures.made w next stands leads)

pub returns-in-Ok-clause-refuses : goal.returns-in-Ok-clause-refuses
returns-in-Ok-clause-refuses g c = refuses_none (BadName ∷ Absent ∷ Exists ∷ Full ∷ []) c.finish.result c.finish.ensures.outage

pub returns-in-Err-clause-behaves : goal.returns-in-Err-clause-behaves
returns-in-Err-clause-behaves g c =
    behaves_alone g.D.Disk.told (error_of (Unit {0}) c.in-Err.fault) c.args.store.now (c.is_settled.ensures.stays c.requires.usable) (λ ok. false≢true ok)
    (no_fault {T = Unit {0}} (BadName ∷ Absent ∷ Exists ∷ Full ∷ []) c.in-Err.fault c.in-Err.ensures.refuses)

pub returns-in-Err-clause-makes : goal.returns-in-Err-clause-makes
returns-in-Err-clause-makes g c w from stands is =
    let t = c.args.store.now.tables in
    let user : ℕ = c.args.user in
    let to = c.args.to.now in
    let name = mailbox_name to in
    let whole : AreWhole t = subst AreWhole c.tables.ensures (record { ordered = c.are_whole.ensures.ordered; closed = c.are_whole.ensures.closed; distinct = c.are_whole.ensures.distinct }) in
    let next = apply w (Rename user from to) in
    let none : PlansNone (IsMovable t user name) c.in-Err.fault (rename_inbox_refused t user name) =
    subst (λ (n : List ℕ). PlansNone (IsMovable t user n) c.in-Err.fault (rename_inbox_refused t user n)) c.canonical_name.ensures
    (subst (λ (u : TableRows). PlansNone (IsMovable u user c.canonical_name.result.now) c.in-Err.fault (rename_inbox_refused u user c.canonical_name.result.now)) c.tables-2.ensures c.in-Err.ensures.none) in
    let leads : rename_inbox_refused t user name ≡ None → IsMovable t user name × Leads in_row t (changes_of t name (mailbox_named user inbox t.heads.mailboxes)) next =
    λ (e : rename_inbox_refused t user name ≡ None). (
      λ (row : Mailbox) found. c.rename_inbox.ensures.can in_row t w user name row whole stands found e,
      led t user name next e (λ (row : Mailbox) found. c.rename_inbox.ensures.leads in_row t w user from to row whole stands is found e),
    ) in
    planned_none g.D.Disk.told c.args.store.now w next tt (IsMovable t user name) (changes_of t name (mailbox_named user inbox t.heads.mailboxes)) c.in-Err.fault
    (rename_inbox_refused t user name) (refused w (Rename user from to)) (c.is_settled.ensures.stays c.requires.usable)
    (c.rename_inbox.ensures.refusal in_row t w user from to whole stands is) none stands leads
