use Rattle.std.proofs.Common.{◌≡◌, ℕ, List, None, inr, refl, sym, subst}
use Rattle.imap_grammar.specs.declared.flags.Flag.{Flag}
use Rattle.ordered_rows.specs.RowKey.{number_key}
use Rattle.ordered_rows.specs.Listed.{row_at}
use Rattle.row_tables.specs.Keys.{message_key}
use Rattle.row_tables.specs.TableRows.{TableRows}
use Rattle.row_tables.specs.Fits.{CanRun, Runs}
use Rattle.row_tables.specs.declared.change.RowChange.{RowChange}
use Rattle.row_store.specs.Bodies.{ArePlaced}
use Rattle.row_store.specs.Holding.{in_row}
use Rattle.mail_world.specs.Changes.{Append}
use Rattle.mail_world.specs.Applying.{apply}
use Rattle.mail_stands.specs.Stands.{AreWhole, Stands}
use Rattle.mail_stands.specs.Leading.{KeepsOwners, Leads}
use Rattle.mail_stands.specs.Arriving.{Brings, append_changes}
use Rattle.mailbox_core.specs.declared.faults.MailFault.{MailFault}
use Rattle.mailbox_core.proofs.Behaving.{is_outage}
use Rattle.mailbox_core.proofs.Arrived.{all_placed, behaves_after, behaves_none, brings, made_after, made_none, starved_after, tells_in}
use Rattle.mailbox_core.proofs.appending.append_planned.Goals as goal

pub finish-requires-clause-fit : goal.finish-requires-clause-fit
finish-requires-clause-fit g c =
    let id : ℕ = c.requires.planned.0 in
    let flags : List Flag = c.requires.planned.1 in
    let planned = c.requires.planned.2 in
    let t = c.args.store.now.tables in
    let mid = c.rows_of.new.store in
    let row = c.args.arrival.row in
    let ids : List ℕ = c.args.arrival.ids.items in
    let names : List RowChange = c.args.arrival.names.items in
    let rows : List RowChange = c.in-Ok.rows.items in
    let message : ℕ = c.in-Ok.message in
    let all : List RowChange = append_changes rows names row message c.args.stamp ids c.args.taken in
    let are : c.in-Ok-arrival_changes.changes.items ≡ all = c.in-Ok-arrival_changes.ensures in
    let same : mid.tables ≡ t = c.in-Ok.ensures.keeps.tables in
    let whole : AreWhole t = subst AreWhole c.tables.ensures (record { ordered = c.are_whole.ensures.ordered; closed = c.are_whole.ensures.closed; distinct = c.are_whole.ensures.distinct }) in
    let is_new : row_at message_key (number_key message) t.mails.messages ≡ None = c.new_number.ensures t.mails.messages message whole.ordered.messages c.in-Ok.ensures.id in
    let brought : Brings in_row t c.args.mail.now flags message rows ids names = brings t id flags row ids names planned c.args.mail.now message rows c.in-Ok.ensures.rows is_new c.requires.mail.kept in
    let can : CanRun t all = c.append.ensures.fit in_row t id row flags c.args.stamp c.args.mail.now c.args.taken message rows ids names whole planned.text planned.found planned.free planned.proper brought in
    subst (λ (l : List RowChange). CanRun mid.tables l) (sym are) (subst (λ (u : TableRows). CanRun u all) (sym same) can)

pub finish-requires-clause-placed : goal.finish-requires-clause-placed
finish-requires-clause-placed g c =
    let id : ℕ = c.requires.planned.0 in
    let flags : List Flag = c.requires.planned.1 in
    let planned = c.requires.planned.2 in
    let t = c.args.store.now.tables in
    let mid = c.rows_of.new.store in
    let row = c.args.arrival.row in
    let ids : List ℕ = c.args.arrival.ids.items in
    let names : List RowChange = c.args.arrival.names.items in
    let rows : List RowChange = c.in-Ok.rows.items in
    let message : ℕ = c.in-Ok.message in
    let all : List RowChange = append_changes rows names row message c.args.stamp ids c.args.taken in
    let are : c.in-Ok-arrival_changes.changes.items ≡ all = c.in-Ok-arrival_changes.ensures in
    subst (λ (l : List RowChange). ArePlaced mid.placed l) (sym are)
    (all_placed t id flags row ids names planned c.placed_bodies_stay_placed.ensures.both mid.placed rows message c.args.stamp c.args.taken c.in-Ok.ensures.placed)

pub returns-in-Ok-arrival_changes-clause-behaves : goal.returns-in-Ok-arrival_changes-clause-behaves
returns-in-Ok-arrival_changes-clause-behaves g c =
    let id : ℕ = c.requires.planned.0 in
    let flags : List Flag = c.requires.planned.1 in
    let planned = c.requires.planned.2 in
    let t = c.args.store.now.tables in
    let mid = c.rows_of.new.store in
    let row = c.args.arrival.row in
    let ids : List ℕ = c.args.arrival.ids.items in
    let names : List RowChange = c.args.arrival.names.items in
    let rows : List RowChange = c.in-Ok.rows.items in
    let message : ℕ = c.in-Ok.message in
    let all : List RowChange = append_changes rows names row message c.args.stamp ids c.args.taken in
    let are : c.in-Ok-arrival_changes.changes.items ≡ all = c.in-Ok-arrival_changes.ensures in
    let same : mid.tables ≡ t = c.in-Ok.ensures.keeps.tables in
    let whole : AreWhole t = subst AreWhole c.tables.ensures (record { ordered = c.are_whole.ensures.ordered; closed = c.are_whole.ensures.closed; distinct = c.are_whole.ensures.distinct }) in
    let is_new : row_at message_key (number_key message) t.mails.messages ≡ None = c.new_number.ensures t.mails.messages message whole.ordered.messages c.in-Ok.ensures.id in
    let brought : Brings in_row t c.args.mail.now flags message rows ids names = brings t id flags row ids names planned c.args.mail.now message rows c.in-Ok.ensures.rows is_new c.requires.mail.kept in
    let can : CanRun t all = c.append.ensures.fit in_row t id row flags c.args.stamp c.args.mail.now c.args.taken message rows ids names whole planned.text planned.found planned.free planned.proper brought in
    let owners : KeepsOwners t can.0 = c.append.ensures.owners in_row t can.0 id row flags c.args.stamp c.args.mail.now c.args.taken message rows ids names planned.found brought can.1 in
    behaves_after g.D.Disk.told c.finish.result c.args.store.now mid c.finish.new.store c.in-Ok.ensures.untouched same c.finish.ensures.outage
    (c.finish.ensures.behaves can.0 (subst (λ (l : List RowChange). Runs mid.tables l can.0) (sym are) (subst (λ (u : TableRows). Runs u all can.0) (sym same) can.1))
    (subst (λ (u : TableRows). KeepsOwners u can.0) (sym same) owners))

pub returns-in-Ok-arrival_changes-clause-made : goal.returns-in-Ok-arrival_changes-clause-made
returns-in-Ok-arrival_changes-clause-made g c w id flags stands planned =
    let t = c.args.store.now.tables in
    let mid = c.rows_of.new.store in
    let row = c.args.arrival.row in
    let ids : List ℕ = c.args.arrival.ids.items in
    let names : List RowChange = c.args.arrival.names.items in
    let rows : List RowChange = c.in-Ok.rows.items in
    let message : ℕ = c.in-Ok.message in
    let all : List RowChange = append_changes rows names row message c.args.stamp ids c.args.taken in
    let are : c.in-Ok-arrival_changes.changes.items ≡ all = c.in-Ok-arrival_changes.ensures in
    let same : mid.tables ≡ t = c.in-Ok.ensures.keeps.tables in
    let whole : AreWhole t = subst AreWhole c.tables.ensures (record { ordered = c.are_whole.ensures.ordered; closed = c.are_whole.ensures.closed; distinct = c.are_whole.ensures.distinct }) in
    let is_new : row_at message_key (number_key message) t.mails.messages ≡ None = c.new_number.ensures t.mails.messages message whole.ordered.messages c.in-Ok.ensures.id in
    let brought : Brings in_row t c.args.mail.now flags message rows ids names = brings t id flags row ids names planned c.args.mail.now message rows c.in-Ok.ensures.rows is_new c.requires.mail.kept in
    let next = apply w (Append id flags c.args.stamp c.args.mail.now c.args.taken) in
    let leads : Leads in_row t all next =
    c.append.ensures.leads in_row t w id row flags c.args.stamp c.args.mail.now c.args.taken message rows ids names whole stands planned.found planned.room (planned.proper, c.requires.date) brought in
    made_after g.D.Disk.told c.finish.result c.args.store.now mid c.finish.new.store c.in-Ok.ensures.untouched w next row.uidnext
    (c.finish.ensures.made w next (subst (λ (u : TableRows). Stands in_row u w) (sym same) stands)
    (subst (λ (l : List RowChange). Leads in_row mid.tables l next) (sym are) (subst (λ (u : TableRows). Leads in_row u all next) (sym same) leads)))

pub returns-in-Err-arrival_changes-clause-behaves : goal.returns-in-Err-arrival_changes-clause-behaves
returns-in-Err-arrival_changes-clause-behaves g c =
    behaves_none g.D.Disk.told MailFault.NoMemory (inr refl) c.args.store.now c.rows_of.new.store _ c.in-Ok.ensures.keeps.crash c.in-Ok.ensures.untouched
    (starved_after g.D.Disk.told c.args.store.now.files c.rows_of.new.store.files _ c.in-Ok.ensures.keeps.faults)

pub returns-in-Err-arrival_changes-clause-made : goal.returns-in-Err-arrival_changes-clause-made
returns-in-Err-arrival_changes-clause-made g c w id flags stands planned =
    made_none g.D.Disk.told MailFault.NoMemory (inr refl) c.args.store.now c.rows_of.new.store _ c.in-Ok.ensures.keeps.crash w
    (apply w (Append id flags c.args.stamp c.args.mail.now c.args.taken)) c.args.arrival.row.uidnext stands

pub returns-in-Err-clause-behaves : goal.returns-in-Err-clause-behaves
returns-in-Err-clause-behaves g c =
    behaves_none g.D.Disk.told c.told_as.result (is_outage c.in-Err.fault c.told_as.result c.told_as.ensures) c.args.store.now c.rows_of.new.store _ c.in-Err.ensures.keeps.crash c.in-Err.ensures.untouched
    (tells_in g.D.Disk.told c.args.store.now.files c.rows_of.new.store.files c.in-Err.fault c.told_as.result c.told_as.ensures c.in-Err.ensures.keeps.faults)

pub returns-in-Err-clause-made : goal.returns-in-Err-clause-made
returns-in-Err-clause-made g c w id flags stands planned =
    made_none g.D.Disk.told c.told_as.result (is_outage c.in-Err.fault c.told_as.result c.told_as.ensures) c.args.store.now c.rows_of.new.store _ c.in-Err.ensures.keeps.crash w
    (apply w (Append id flags c.args.stamp c.args.mail.now c.args.taken)) c.args.arrival.row.uidnext stands
