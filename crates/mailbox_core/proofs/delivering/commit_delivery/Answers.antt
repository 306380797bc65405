use Rattle.std.proofs.Common.{◌≡◌, ℕ, List, None, inr, refl, sym, subst}
use Rattle.ordered_rows.specs.RowKey.{number_key}
use Rattle.ordered_rows.specs.Listed.{row_at}
use Rattle.row_tables.specs.Keys.{message_key}
use Rattle.row_tables.specs.TableRows.{TableRows}
use Rattle.row_tables.specs.Fits.{CanRun, Runs}
use Rattle.row_tables.specs.declared.heads.Mailbox.{Mailbox as Head}
use Rattle.row_tables.specs.declared.change.RowChange.{RowChange}
use Rattle.row_store.specs.Bodies.{ArePlaced}
use Rattle.row_store.specs.Holding.{in_row}
use Rattle.mail_world.specs.Changes.{Deliver}
use Rattle.mail_world.specs.Applying.{apply}
use Rattle.mail_stands.specs.Stands.{AreWhole, Stands}
use Rattle.mail_stands.specs.Leading.{KeepsOwners, Leads}
use Rattle.mail_stands.specs.Delivering.{AreReceivers, BringsMail, deliver_changes}
use Rattle.mailbox_core.specs.Faults.{fault_in}
use Rattle.mailbox_core.specs.declared.faults.MailFault.{MailFault}
use Rattle.mailbox_core.proofs.Behaving.{is_outage}
use Rattle.mailbox_core.proofs.Arrived.{behaves_after, behaves_none, made_after, made_none, starved_after, tells_in}
use Rattle.mailbox_core.proofs.Deliveries.{deliver_placed, outage_of}
use Rattle.mailbox_core.proofs.Receiving.{all_left}
use Rattle.mailbox_core.proofs.delivering.commit_delivery.Goals as goal

pub delivery_changes-requires : goal.delivery_changes-requires
delivery_changes-requires g c = all_left c.args.store.now.tables c.requires.planned.0 c.args.rows.now c.requires.planned.1

pub finish_unrefused-requires-clause-fit : goal.finish_unrefused-requires-clause-fit
finish_unrefused-requires-clause-fit g c =
    let t = c.args.store.now.tables in
    let mid = c.rows_of.new.store in
    let heads : List Head = c.args.rows.now in
    let added : List RowChange = c.in-Ok.added.items in
    let message : ℕ = c.in-Ok.message in
    let taken : List ℕ = c.args.taken.now in
    let all : List RowChange = deliver_changes added heads message c.args.stamp taken in
    let are : c.in-Ok-delivery_changes.changes.items ≡ all = c.in-Ok-delivery_changes.ensures in
    let same : mid.tables ≡ t = c.in-Ok.ensures.keeps.tables in
    let whole : AreWhole t = subst AreWhole c.tables.ensures (record { ordered = c.are_whole.ensures.ordered; closed = c.are_whole.ensures.closed; distinct = c.are_whole.ensures.distinct }) in
    let is_new : row_at message_key (number_key message) t.mails.messages ≡ None = c.new_number.ensures t.mails.messages message whole.ordered.messages c.in-Ok.ensures.id in
    let brought : BringsMail in_row t c.args.mail.now message added = record { shreds = c.in-Ok.ensures.rows; is_new = is_new; kept = c.requires.mail.kept } in
    let can : CanRun t all = c.deliver.ensures.fit in_row t c.requires.planned.0 c.args.stamp c.args.mail.now taken message added heads whole c.requires.planned.1 brought in
    subst (λ (l : List RowChange). CanRun mid.tables l) (sym are) (subst (λ (u : TableRows). CanRun u all) (sym same) can)

pub finish_unrefused-requires-clause-placed : goal.finish_unrefused-requires-clause-placed
finish_unrefused-requires-clause-placed g c =
    subst (λ (l : List RowChange). ArePlaced c.rows_of.new.store.placed l) (sym c.in-Ok-delivery_changes.ensures)
    (deliver_placed c.placed_bodies_stay_placed.ensures.both c.rows_of.new.store.placed c.in-Ok.added.items c.args.rows.now c.in-Ok.message c.args.stamp c.args.taken.now c.in-Ok.ensures.placed)

pub returns-in-Ok-delivery_changes-clause-behaves : goal.returns-in-Ok-delivery_changes-clause-behaves
returns-in-Ok-delivery_changes-clause-behaves g c =
    let t = c.args.store.now.tables in
    let mid = c.rows_of.new.store in
    let heads : List Head = c.args.rows.now in
    let added : List RowChange = c.in-Ok.added.items in
    let message : ℕ = c.in-Ok.message in
    let taken : List ℕ = c.args.taken.now in
    let all : List RowChange = deliver_changes added heads message c.args.stamp taken in
    let are : c.in-Ok-delivery_changes.changes.items ≡ all = c.in-Ok-delivery_changes.ensures in
    let same : mid.tables ≡ t = c.in-Ok.ensures.keeps.tables in
    let whole : AreWhole t = subst AreWhole c.tables.ensures (record { ordered = c.are_whole.ensures.ordered; closed = c.are_whole.ensures.closed; distinct = c.are_whole.ensures.distinct }) in
    let is_new : row_at message_key (number_key message) t.mails.messages ≡ None = c.new_number.ensures t.mails.messages message whole.ordered.messages c.in-Ok.ensures.id in
    let brought : BringsMail in_row t c.args.mail.now message added = record { shreds = c.in-Ok.ensures.rows; is_new = is_new; kept = c.requires.mail.kept } in
    let can : CanRun t all = c.deliver.ensures.fit in_row t c.requires.planned.0 c.args.stamp c.args.mail.now taken message added heads whole c.requires.planned.1 brought in
    let owners : KeepsOwners t can.0 = c.deliver.ensures.owners in_row t can.0 c.requires.planned.0 c.args.stamp c.args.mail.now taken message added heads whole c.requires.planned.1 brought can.1 in
    behaves_after g.D.Disk.told _ c.args.store.now mid c.finish_unrefused.new.store c.in-Ok.ensures.untouched same (outage_of c.finish_unrefused.result)
    (c.finish_unrefused.ensures.behaves can.0 (subst (λ (l : List RowChange). Runs mid.tables l can.0) (sym are) (subst (λ (u : TableRows). Runs u all can.0) (sym same) can.1))
    (subst (λ (u : TableRows). KeepsOwners u can.0) (sym same) owners))

pub returns-in-Ok-delivery_changes-clause-made : goal.returns-in-Ok-delivery_changes-clause-made
returns-in-Ok-delivery_changes-clause-made g c w users stands planned receive =
    let t = c.args.store.now.tables in
    let mid = c.rows_of.new.store in
    let heads : List Head = c.args.rows.now in
    let added : List RowChange = c.in-Ok.added.items in
    let message : ℕ = c.in-Ok.message in
    let taken : List ℕ = c.args.taken.now in
    let all : List RowChange = deliver_changes added heads message c.args.stamp taken in
    let are : c.in-Ok-delivery_changes.changes.items ≡ all = c.in-Ok-delivery_changes.ensures in
    let same : mid.tables ≡ t = c.in-Ok.ensures.keeps.tables in
    let whole : AreWhole t = subst AreWhole c.tables.ensures (record { ordered = c.are_whole.ensures.ordered; closed = c.are_whole.ensures.closed; distinct = c.are_whole.ensures.distinct }) in
    let is_new : row_at message_key (number_key message) t.mails.messages ≡ None = c.new_number.ensures t.mails.messages message whole.ordered.messages c.in-Ok.ensures.id in
    let brought : BringsMail in_row t c.args.mail.now message added = record { shreds = c.in-Ok.ensures.rows; is_new = is_new; kept = c.requires.mail.kept } in
    let next = apply w (Deliver users c.args.mail.now c.args.stamp taken) in
    let leads : Leads in_row t all next = c.deliver.ensures.leads in_row t w users c.args.stamp c.args.mail.now taken message added heads whole stands c.requires.date planned receive brought in
    made_after g.D.Disk.told _ c.args.store.now mid c.finish_unrefused.new.store c.in-Ok.ensures.untouched w next tt
    (c.finish_unrefused.ensures.made w next (subst (λ (u : TableRows). Stands in_row u w) (sym same) stands)
    (subst (λ (l : List RowChange). Leads in_row mid.tables l next) (sym are) (subst (λ (u : TableRows). Leads in_row u all next) (sym same) leads)))

pub returns-in-Err-delivery_changes-clause-behaves : goal.returns-in-Err-delivery_changes-clause-behaves
returns-in-Err-delivery_changes-clause-behaves g c =
    behaves_none g.D.Disk.told MailFault.NoMemory (inr refl) c.args.store.now c.rows_of.new.store _ c.in-Ok.ensures.keeps.crash c.in-Ok.ensures.untouched
    (starved_after g.D.Disk.told c.args.store.now.files c.rows_of.new.store.files _ c.in-Ok.ensures.keeps.faults)

pub returns-in-Err-delivery_changes-clause-made : goal.returns-in-Err-delivery_changes-clause-made
returns-in-Err-delivery_changes-clause-made g c w users stands planned receive =
    made_none g.D.Disk.told MailFault.NoMemory (inr refl) c.args.store.now c.rows_of.new.store _ c.in-Ok.ensures.keeps.crash w
    (apply w (Deliver users c.args.mail.now c.args.stamp c.args.taken.now)) tt stands

pub returns-in-Err-clause-behaves : goal.returns-in-Err-clause-behaves
returns-in-Err-clause-behaves g c =
    behaves_none g.D.Disk.told (fault_in c.in-Err.fault) (is_outage c.in-Err.fault (fault_in c.in-Err.fault) refl) c.args.store.now c.rows_of.new.store _ c.in-Err.ensures.keeps.crash c.in-Err.ensures.untouched
    (tells_in g.D.Disk.told c.args.store.now.files c.rows_of.new.store.files c.in-Err.fault (fault_in c.in-Err.fault) refl c.in-Err.ensures.keeps.faults)

pub returns-in-Err-clause-made : goal.returns-in-Err-clause-made
returns-in-Err-clause-made g c w users stands planned receive =
    made_none g.D.Disk.told (fault_in c.in-Err.fault) (is_outage c.in-Err.fault (fault_in c.in-Err.fault) refl) c.args.store.now c.rows_of.new.store _ c.in-Err.ensures.keeps.crash w
    (apply w (Deliver users c.args.mail.now c.args.stamp c.args.taken.now)) tt stands
