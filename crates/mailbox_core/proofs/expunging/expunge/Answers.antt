use Rattle.std.proofs.Common.{◌≡◌, Bool, true, false, ℕ, List, [], ◌∷◌, Ok, refl, sym, ◌∙◌, subst}
use Rattle.std.specs.List.{list_any}
use Rattle.std.proofs.lemmas.Bool.{false≢true}
use Rattle.row_tables.specs.TableRows.{TableRows}
use Rattle.row_tables.specs.Fits.{CanRun, Runs}
use Rattle.row_tables.specs.declared.change.RowChange.{RowChange}
use Rattle.row_store.specs.Bodies.{ArePlaced}
use Rattle.row_store.specs.Holding.{in_row}
use Rattle.mail_world.specs.Changes.{Expunge, Full}
use Rattle.mail_world.specs.Applying.{apply, refused}
use Rattle.mail_stands.specs.Stands.{AreWhole}
use Rattle.mail_stands.specs.Leading.{KeepsOwners, Leads}
use Rattle.mail_stands.specs.Storing.{is_there}
use Rattle.mail_stands.specs.Expunging.{expunge_changes, expunge_refused, there_of}
use Rattle.mailbox_core.specs.Messages.{has_one_of}
use Rattle.mailbox_core.specs.Rooms.{PlansNone}
use Rattle.mailbox_core.specs.Expunging.{CanGo, HasNoneOf, PlansExpunging}
use Rattle.mailbox_core.proofs.Arrived.{append_none}
use Rattle.mailbox_core.proofs.Behaving.{behaves_alone, error_of}
use Rattle.mailbox_core.proofs.Expunges.{any_told, expunge_placed, found_row}
use Rattle.mailbox_core.proofs.Planned.{no_fault, planned_made, refuses_none}
use Rattle.mailbox_core.proofs.StoredCalls.{behaves_same, made_same, text_name}
use Rattle.mailbox_core.proofs.expunging.expunge.Goals as goal

pub finish-requires-clause-fit : goal.finish-requires-clause-fit
finish-requires-clause-fit g c =
    let t = c.args.store.now.tables in
    let id : ℕ = c.args.mailbox in
    let uids : List ℕ = c.args.uids.now in
    let whole : AreWhole t = subst AreWhole c.tables.ensures (record { ordered = c.are_whole.ensures.ordered; closed = c.are_whole.ensures.closed; distinct = c.are_whole.ensures.distinct }) in
    let planned : PlansExpunging t id uids c.in-Ok-Some.changes.items =
    subst (λ (u : TableRows). PlansExpunging u id uids c.in-Ok-Some.changes.items) c.tables-2.ensures (rw c.in-Ok-Some.field-0-is at c.in-Ok-Some.ensures.plan) in
    subst (λ (l : List RowChange). CanRun t l) (sym planned.are)
    (c.expunge.ensures.fit t id planned.row uids whole planned.may.text planned.may.found c.requires.uids planned.may.apart)

pub finish-requires-clause-placed : goal.finish-requires-clause-placed
finish-requires-clause-placed g c =
    let t = c.args.store.now.tables in
    let id : ℕ = c.args.mailbox in
    let uids : List ℕ = c.args.uids.now in
    let planned : PlansExpunging t id uids c.in-Ok-Some.changes.items =
    subst (λ (u : TableRows). PlansExpunging u id uids c.in-Ok-Some.changes.items) c.tables-2.ensures (rw c.in-Ok-Some.field-0-is at c.in-Ok-Some.ensures.plan) in
    subst (λ (l : List RowChange). ArePlaced c.args.store.now.placed l) (sym planned.are) (expunge_placed c.args.store.now.placed t planned.row (there_of t id uids))

pub returns-in-Ok-Some-clause-behaves : goal.returns-in-Ok-Some-clause-behaves
returns-in-Ok-Some-clause-behaves g c =
    let t = c.args.store.now.tables in
    let id : ℕ = c.args.mailbox in
    let uids : List ℕ = c.args.uids.now in
    let whole : AreWhole t = subst AreWhole c.tables.ensures (record { ordered = c.are_whole.ensures.ordered; closed = c.are_whole.ensures.closed; distinct = c.are_whole.ensures.distinct }) in
    let planned : PlansExpunging t id uids c.in-Ok-Some.changes.items =
    subst (λ (u : TableRows). PlansExpunging u id uids c.in-Ok-Some.changes.items) c.tables-2.ensures (rw c.in-Ok-Some.field-0-is at c.in-Ok-Some.ensures.plan) in
    let all : List RowChange = expunge_changes t planned.row (there_of t id uids) in
    let can : CanRun t all = c.expunge.ensures.fit t id planned.row uids whole planned.may.text planned.may.found c.requires.uids planned.may.apart in
    let owners : KeepsOwners t can.0 = c.expunge.ensures.owners t can.0 id planned.row uids whole planned.may.text planned.may.found c.requires.uids planned.may.apart can.1 in
    c.finish.ensures.behaves can.0 (subst (λ (l : List RowChange). Runs t l can.0) (sym planned.are) can.1) owners

pub returns-in-Ok-Some-clause-makes : goal.returns-in-Ok-Some-clause-makes
returns-in-Ok-Some-clause-makes g c w stands =
    let t = c.args.store.now.tables in
    let id : ℕ = c.args.mailbox in
    let uids : List ℕ = c.args.uids.now in
    let whole : AreWhole t = subst AreWhole c.tables.ensures (record { ordered = c.are_whole.ensures.ordered; closed = c.are_whole.ensures.closed; distinct = c.are_whole.ensures.distinct }) in
    let planned : PlansExpunging t id uids c.in-Ok-Some.changes.items =
    subst (λ (u : TableRows). PlansExpunging u id uids c.in-Ok-Some.changes.items) c.tables-2.ensures (rw c.in-Ok-Some.field-0-is at c.in-Ok-Some.ensures.plan) in
    let change = Expunge id uids in
    let leads : Leads in_row t c.in-Ok-Some.changes.items (apply w change) =
    subst (λ (l : List RowChange). Leads in_row t l (apply w change)) (sym planned.are)
    (c.expunge.ensures.leads in_row t w id planned.row uids whole stands planned.may.found c.requires.uids planned.may.some planned.may.room) in
    let told : true ≡ has_one_of w id uids = sym planned.may.some ∙ any_told in_row t w id (λ uid. c.entry_rows.ensures in_row t w id uid stands) uids in
    planned_made g.D.Disk.told c.finish.result c.args.store.now c.finish.new.store w (apply w change) true (has_one_of w id uids)
    (expunge_refused t id uids) (refused w change) (c.expunge.ensures.refusal in_row t w id uids whole stands) planned.may.room
    told (c.finish.ensures.made w (apply w change) stands leads)

pub returns-in-Ok-Some-clause-refuses : goal.returns-in-Ok-Some-clause-refuses
returns-in-Ok-Some-clause-refuses g c = refuses_none (Full ∷ []) c.finish.result c.finish.ensures.outage

pub returns-in-Ok-None-clause-behaves : goal.returns-in-Ok-None-clause-behaves
returns-in-Ok-None-clause-behaves g c = behaves_same g.D.Disk.told c.args.store.now false (c.is_settled.ensures.stays c.requires.usable) c.requires.fresh c.requires.usable

pub returns-in-Ok-None-clause-makes : goal.returns-in-Ok-None-clause-makes
returns-in-Ok-None-clause-makes g c w stands =
    let t = c.args.store.now.tables in
    let id : ℕ = c.args.mailbox in
    let uids : List ℕ = c.args.uids.now in
    let whole : AreWhole t = subst AreWhole c.tables.ensures (record { ordered = c.are_whole.ensures.ordered; closed = c.are_whole.ensures.closed; distinct = c.are_whole.ensures.distinct }) in
    let change = Expunge id uids in
    let keeps : HasNoneOf t id uids = subst (λ (u : TableRows). HasNoneOf u id uids) c.tables-2.ensures (rw c.in-Ok-None.field-0-is at c.in-Ok-None.ensures.plan) in
    let told : false ≡ has_one_of w id uids = sym keeps.none ∙ any_told in_row t w id (λ uid. c.entry_rows.ensures in_row t w id uid stands) uids in
    planned_made g.D.Disk.told (Ok false) c.args.store.now c.args.store.now w (apply w change) false (has_one_of w id uids)
    (expunge_refused t id uids) (refused w change) (c.expunge.ensures.refusal in_row t w id uids whole stands) keeps.room
    told (made_same g.D.Disk.told c.args.store.now false (c.is_settled.ensures.stays c.requires.usable) w (apply w change) stands (c.expunge.ensures.stays in_row t w id uids whole stands keeps.none))

pub returns-in-Err-clause-makes : goal.returns-in-Err-clause-makes
returns-in-Err-clause-makes g c w stands =
    let t = c.args.store.now.tables in
    let id : ℕ = c.args.mailbox in
    let uids : List ℕ = c.args.uids.now in
    let whole : AreWhole t = subst AreWhole c.tables.ensures (record { ordered = c.are_whole.ensures.ordered; closed = c.are_whole.ensures.closed; distinct = c.are_whole.ensures.distinct }) in
    let change = Expunge id uids in
    let none : PlansNone (CanGo t id uids) c.in-Err.fault (expunge_refused t id uids) =
    subst (λ (u : TableRows). PlansNone (CanGo u id uids) c.in-Err.fault (expunge_refused u id uids)) c.tables-2.ensures c.in-Err.ensures.none in
    let its = found_row t id c.requires.there in
    append_none g.D.Disk.told c.args.store.now w (apply w change) (has_one_of w id uids) (CanGo t id uids) c.in-Err.fault (expunge_refused t id uids) (refused w change)
    (c.is_settled.ensures.stays c.requires.usable) (c.expunge.ensures.refusal in_row t w id uids whole stands) none stands
    (record { text = text_name t w id stands; apart = c.expunge.ensures.apart in_row t w id its.0 uids stands its.1 })

pub returns-in-Err-clause-behaves : goal.returns-in-Err-clause-behaves
returns-in-Err-clause-behaves g c =
    behaves_alone g.D.Disk.told (error_of Bool c.in-Err.fault) c.args.store.now (c.is_settled.ensures.stays c.requires.usable) (λ ok. false≢true ok)
    (no_fault {T = Bool} (Full ∷ []) c.in-Err.fault c.in-Err.ensures.refuses)
