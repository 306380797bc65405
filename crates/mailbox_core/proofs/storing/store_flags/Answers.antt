use Rattle.std.proofs.Common.{ℕ, List, [], ◌∷◌, Ok, refl, sym, subst}
use Rattle.std.proofs.lemmas.Bool.{false≢true}
use Rattle.imap_grammar.specs.declared.flags.Flag.{Flag}
use Rattle.row_tables.specs.TableRows.{TableRows}
use Rattle.row_tables.specs.Fits.{CanRun, Runs}
use Rattle.row_tables.specs.declared.change.RowChange.{RowChange}
use Rattle.row_store.specs.Bodies.{ArePlaced}
use Rattle.row_store.specs.Holding.{in_row}
use Rattle.mail_world.specs.Changes.{Full, StoreFlags}
use Rattle.mail_world.specs.Applying.{apply, refused}
use Rattle.mail_stands.specs.Stands.{AreWhole}
use Rattle.mail_stands.specs.Leading.{KeepsOwners, Leads}
use Rattle.mail_stands.specs.Storing.{AreStorable, store_changes, store_refused}
use Rattle.mailbox_core.specs.Rooms.{PlansNone}
use Rattle.mailbox_core.specs.Storing.{HasTextName, KeepsFlags, PlansStoring}
use Rattle.mailbox_core.proofs.Arrived.{append_none}
use Rattle.mailbox_core.proofs.Behaving.{behaves_alone, error_of}
use Rattle.mailbox_core.proofs.Planned.{no_fault, planned_made, refuses_none}
use Rattle.mailbox_core.proofs.StoredCalls.{behaves_same, made_same, text_name}
use Rattle.mailbox_core.proofs.StoredPlans.{stored_placed}
use Rattle.mailbox_core.proofs.storing.store_flags.Goals as goal

pub finish-requires-clause-fit : goal.finish-requires-clause-fit
finish-requires-clause-fit g c =
    let t = c.args.store.now.tables in
    let id : ℕ = c.args.mailbox in
    let uids : List ℕ = c.args.uids.now in
    let flags : List Flag = c.args.flags.now in
    let whole : AreWhole t = subst AreWhole c.tables.ensures (record { ordered = c.are_whole.ensures.ordered; closed = c.are_whole.ensures.closed; distinct = c.are_whole.ensures.distinct }) in
    let storable : AreStorable uids flags = record { ascend = c.requires.uids; proper = c.requires.flags.flags_are; once = c.requires.once } in
    let planned : PlansStoring t id uids c.args.how flags c.in-Ok-Some.changes.items =
    subst (λ (u : TableRows). PlansStoring u id uids c.args.how flags c.in-Ok-Some.changes.items) c.tables-2.ensures (rw c.in-Ok-Some.field-0-is at c.in-Ok-Some.ensures.plan) in
    let row = planned.row in
    let all : List RowChange = store_changes t row uids c.args.how flags planned.ids planned.names in
    subst (λ (l : List RowChange). CanRun t l) (sym planned.are)
    (c.store_flags.ensures.fit t id row uids c.args.how flags planned.ids planned.names whole planned.may.text planned.may.found storable planned.naming.named)

pub finish-requires-clause-placed : goal.finish-requires-clause-placed
finish-requires-clause-placed g c =
    let t = c.args.store.now.tables in
    let id : ℕ = c.args.mailbox in
    let uids : List ℕ = c.args.uids.now in
    let flags : List Flag = c.args.flags.now in
    let planned : PlansStoring t id uids c.args.how flags c.in-Ok-Some.changes.items =
    subst (λ (u : TableRows). PlansStoring u id uids c.args.how flags c.in-Ok-Some.changes.items) c.tables-2.ensures (rw c.in-Ok-Some.field-0-is at c.in-Ok-Some.ensures.plan) in
    let row = planned.row in
    let all : List RowChange = store_changes t row uids c.args.how flags planned.ids planned.names in
    subst (λ (l : List RowChange). ArePlaced c.args.store.now.placed l) (sym planned.are)
    (stored_placed c.args.store.now.placed t row uids c.args.how flags planned.ids planned.names (planned.naming.placed c.args.store.now.placed))

pub returns-in-Ok-Some-clause-behaves : goal.returns-in-Ok-Some-clause-behaves
returns-in-Ok-Some-clause-behaves g c =
    let t = c.args.store.now.tables in
    let id : ℕ = c.args.mailbox in
    let uids : List ℕ = c.args.uids.now in
    let flags : List Flag = c.args.flags.now in
    let whole : AreWhole t = subst AreWhole c.tables.ensures (record { ordered = c.are_whole.ensures.ordered; closed = c.are_whole.ensures.closed; distinct = c.are_whole.ensures.distinct }) in
    let storable : AreStorable uids flags = record { ascend = c.requires.uids; proper = c.requires.flags.flags_are; once = c.requires.once } in
    let planned : PlansStoring t id uids c.args.how flags c.in-Ok-Some.changes.items =
    subst (λ (u : TableRows). PlansStoring u id uids c.args.how flags c.in-Ok-Some.changes.items) c.tables-2.ensures (rw c.in-Ok-Some.field-0-is at c.in-Ok-Some.ensures.plan) in
    let row = planned.row in
    let all : List RowChange = store_changes t row uids c.args.how flags planned.ids planned.names in
    let can : CanRun t all = c.store_flags.ensures.fit t id row uids c.args.how flags planned.ids planned.names whole planned.may.text planned.may.found storable planned.naming.named in
    let owners : KeepsOwners t can.0 = c.store_flags.ensures.owners t can.0 id row uids c.args.how flags planned.ids planned.names whole planned.may.text planned.may.found storable planned.naming.named can.1 in
    c.finish.ensures.behaves can.0 (subst (λ (l : List RowChange). Runs t l can.0) (sym planned.are) can.1) owners

pub returns-in-Ok-Some-clause-makes : goal.returns-in-Ok-Some-clause-makes
returns-in-Ok-Some-clause-makes g c w stands =
    let t = c.args.store.now.tables in
    let id : ℕ = c.args.mailbox in
    let uids : List ℕ = c.args.uids.now in
    let flags : List Flag = c.args.flags.now in
    let whole : AreWhole t = subst AreWhole c.tables.ensures (record { ordered = c.are_whole.ensures.ordered; closed = c.are_whole.ensures.closed; distinct = c.are_whole.ensures.distinct }) in
    let storable : AreStorable uids flags = record { ascend = c.requires.uids; proper = c.requires.flags.flags_are; once = c.requires.once } in
    let planned : PlansStoring t id uids c.args.how flags c.in-Ok-Some.changes.items =
    subst (λ (u : TableRows). PlansStoring u id uids c.args.how flags c.in-Ok-Some.changes.items) c.tables-2.ensures (rw c.in-Ok-Some.field-0-is at c.in-Ok-Some.ensures.plan) in
    let row = planned.row in
    let all : List RowChange = store_changes t row uids c.args.how flags planned.ids planned.names in
    let change = StoreFlags id uids c.args.how flags in
    let leads : Leads in_row t c.in-Ok-Some.changes.items (apply w change) =
    subst (λ (l : List RowChange). Leads in_row t l (apply w change)) (sym planned.are)
    (c.store_flags.ensures.leads in_row t w id row uids c.args.how flags planned.ids planned.names whole stands planned.may.found storable planned.naming.named planned.may.some planned.may.room) in
    planned_made g.D.Disk.told c.finish.result c.args.store.now c.finish.new.store w (apply w change) tt tt
    (store_refused t id uids c.args.how flags) (refused w change) (c.store_flags.ensures.refusal in_row t w id uids c.args.how flags whole stands storable) planned.may.room
    refl (c.finish.ensures.made w (apply w change) stands leads)

pub returns-in-Ok-Some-clause-refuses : goal.returns-in-Ok-Some-clause-refuses
returns-in-Ok-Some-clause-refuses g c = refuses_none (Full ∷ []) c.finish.result c.finish.ensures.outage

pub returns-in-Ok-None-clause-behaves : goal.returns-in-Ok-None-clause-behaves
returns-in-Ok-None-clause-behaves g c = behaves_same g.D.Disk.told c.args.store.now tt (c.is_settled.ensures.stays c.requires.usable) c.requires.fresh c.requires.usable

pub returns-in-Ok-None-clause-makes : goal.returns-in-Ok-None-clause-makes
returns-in-Ok-None-clause-makes g c w stands =
    let t = c.args.store.now.tables in
    let id : ℕ = c.args.mailbox in
    let uids : List ℕ = c.args.uids.now in
    let flags : List Flag = c.args.flags.now in
    let whole : AreWhole t = subst AreWhole c.tables.ensures (record { ordered = c.are_whole.ensures.ordered; closed = c.are_whole.ensures.closed; distinct = c.are_whole.ensures.distinct }) in
    let storable : AreStorable uids flags = record { ascend = c.requires.uids; proper = c.requires.flags.flags_are; once = c.requires.once } in
    let change = StoreFlags id uids c.args.how flags in
    let keeps : KeepsFlags t id uids c.args.how flags =
    subst (λ (u : TableRows). KeepsFlags u id uids c.args.how flags) c.tables-2.ensures (rw c.in-Ok-None.field-0-is at c.in-Ok-None.ensures.plan) in
    planned_made g.D.Disk.told (Ok tt) c.args.store.now c.args.store.now w (apply w change) tt tt
    (store_refused t id uids c.args.how flags) (refused w change) (c.store_flags.ensures.refusal in_row t w id uids c.args.how flags whole stands storable) keeps.room
    refl (made_same g.D.Disk.told c.args.store.now tt (c.is_settled.ensures.stays c.requires.usable) w (apply w change) stands (c.store_flags.ensures.stays in_row t w id uids c.args.how flags whole stands storable keeps.none))

pub returns-in-Err-clause-makes : goal.returns-in-Err-clause-makes
returns-in-Err-clause-makes g c w stands =
    let t = c.args.store.now.tables in
    let id : ℕ = c.args.mailbox in
    let uids : List ℕ = c.args.uids.now in
    let flags : List Flag = c.args.flags.now in
    let whole : AreWhole t = subst AreWhole c.tables.ensures (record { ordered = c.are_whole.ensures.ordered; closed = c.are_whole.ensures.closed; distinct = c.are_whole.ensures.distinct }) in
    let storable : AreStorable uids flags = record { ascend = c.requires.uids; proper = c.requires.flags.flags_are; once = c.requires.once } in
    let change = StoreFlags id uids c.args.how flags in
    let none : PlansNone (HasTextName t id) c.in-Err.fault (store_refused t id uids c.args.how flags) =
    subst (λ (u : TableRows). PlansNone (HasTextName u id) c.in-Err.fault (store_refused u id uids c.args.how flags)) c.tables-2.ensures c.in-Err.ensures.none in
    append_none g.D.Disk.told c.args.store.now w (apply w change) tt (HasTextName t id) c.in-Err.fault (store_refused t id uids c.args.how flags) (refused w change)
    (c.is_settled.ensures.stays c.requires.usable) (c.store_flags.ensures.refusal in_row t w id uids c.args.how flags whole stands storable) none stands (text_name t w id stands)

pub returns-in-Err-clause-behaves : goal.returns-in-Err-clause-behaves
returns-in-Err-clause-behaves g c =
    behaves_alone g.D.Disk.told (error_of (Unit {0}) c.in-Err.fault) c.args.store.now (c.is_settled.ensures.stays c.requires.usable) (λ ok. false≢true ok)
    (no_fault {T = Unit {0}} (Full ∷ []) c.in-Err.fault c.in-Err.ensures.refuses)
