use Rattle.std.proofs.Common.{◌∷◌, [], ℕ, List, subst}
use Rattle.std.proofs.lemmas.Bool.{false≢true}
use Rattle.imap_grammar.specs.declared.flags.Flag.{Flag}
use Rattle.row_tables.specs.TableRows.{TableRows}
use Rattle.row_store.specs.Holding.{in_row}
use Rattle.mail_world.specs.Changes.{Append, Full, NoUid}
use Rattle.mail_world.specs.Applying.{apply, refused}
use Rattle.mail_stands.specs.Stands.{AreWhole}
use Rattle.mail_stands.specs.Arriving.{append_refused}
use Rattle.mailbox_core.specs.Messages.{next_uid}
use Rattle.mailbox_core.specs.Appending.{HasNextFree, PlansArrival}
use Rattle.mailbox_core.specs.Rooms.{PlansNone}
use Rattle.mailbox_core.proofs.Behaving.{behaves_alone, error_of}
use Rattle.mailbox_core.proofs.Planned.{no_fault, planned_made, refuses_none}
use Rattle.mailbox_core.proofs.Arrived.{append_none, next_free, uid_is}
use Rattle.mailbox_core.proofs.appending.append.Goals as goal

pub append_planned-requires-clause-planned : goal.append_planned-requires-clause-planned
append_planned-requires-clause-planned g c =
    (c.args.mailbox, c.args.flags.now, subst (λ (u : TableRows). PlansArrival u c.args.mailbox c.args.flags.now c.in-Ok.arrival.row c.in-Ok.arrival.ids.items c.in-Ok.arrival.names.items) c.tables-2.ensures c.in-Ok.ensures.plan)

pub returns-in-Err-clause-behaves : goal.returns-in-Err-clause-behaves
returns-in-Err-clause-behaves g c =
    behaves_alone g.D.Disk.told (error_of ℕ c.in-Err.fault) c.args.store.now (c.is_settled.ensures.stays c.requires.usable) (λ ok. false≢true ok)
    (no_fault {T = ℕ} (Full ∷ NoUid ∷ []) c.in-Err.fault c.in-Err.ensures.refuses)

pub returns-in-Err-clause-makes : goal.returns-in-Err-clause-makes
returns-in-Err-clause-makes g c w stands =
    let t = c.args.store.now.tables in
    let id : ℕ = c.args.mailbox in
    let flags : List Flag = c.args.flags.now in
    let change = Append id flags c.args.stamp c.args.mail.now c.args.taken in
    let whole : AreWhole t = subst AreWhole c.tables.ensures (record { ordered = c.are_whole.ensures.ordered; closed = c.are_whole.ensures.closed; distinct = c.are_whole.ensures.distinct }) in
    let none : PlansNone (HasNextFree t id) c.in-Err.fault (append_refused t id flags) =
    subst (λ (u : TableRows). PlansNone (HasNextFree u id) c.in-Err.fault (append_refused u id flags)) c.tables-2.ensures c.in-Err.ensures.none in
    append_none g.D.Disk.told c.args.store.now w (apply w change) (next_uid w id) (HasNextFree t id) c.in-Err.fault (append_refused t id flags) (refused w change)
    (c.is_settled.ensures.stays c.requires.usable) (c.append.ensures.refusal in_row t w id flags c.args.stamp c.args.mail.now c.args.taken whole stands) none stands
    (next_free t w id stands (λ row found. c.append.ensures.next in_row t w id row stands found))

pub returns-in-Ok-clause-makes : goal.returns-in-Ok-clause-makes
returns-in-Ok-clause-makes g c w stands =
    let t = c.args.store.now.tables in
    let id : ℕ = c.args.mailbox in
    let flags : List Flag = c.args.flags.now in
    let change = Append id flags c.args.stamp c.args.mail.now c.args.taken in
    let whole : AreWhole t = subst AreWhole c.tables.ensures (record { ordered = c.are_whole.ensures.ordered; closed = c.are_whole.ensures.closed; distinct = c.are_whole.ensures.distinct }) in
    let planned : PlansArrival t id flags c.in-Ok.arrival.row c.in-Ok.arrival.ids.items c.in-Ok.arrival.names.items =
    subst (λ (u : TableRows). PlansArrival u id flags c.in-Ok.arrival.row c.in-Ok.arrival.ids.items c.in-Ok.arrival.names.items) c.tables-2.ensures c.in-Ok.ensures.plan in
    planned_made g.D.Disk.told c.append_planned.result c.args.store.now c.append_planned.new.store w (apply w change) c.in-Ok.arrival.row.uidnext (next_uid w id)
    (append_refused t id flags) (refused w change) (c.append.ensures.refusal in_row t w id flags c.args.stamp c.args.mail.now c.args.taken whole stands) planned.room
    (uid_is t w id c.in-Ok.arrival.row (c.mailbox_rows.ensures.at in_row t w id stands) planned.found) (c.append_planned.ensures.made w id flags stands planned)

pub returns-in-Ok-clause-refuses : goal.returns-in-Ok-clause-refuses
returns-in-Ok-clause-refuses g c = refuses_none (Full ∷ NoUid ∷ []) c.append_planned.result c.append_planned.ensures.outage
