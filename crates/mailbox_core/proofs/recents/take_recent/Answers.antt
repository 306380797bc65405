use Rattle.std.proofs.Common.{ℕ, None, inl, refl, sym, ◌∙◌, subst}
use Rattle.std.proofs.lemmas.Bool.{false≢true}
use Rattle.row_tables.specs.TableRows.{TableRows}
use Rattle.row_tables.specs.References.{AreClosed}
use Rattle.row_store.specs.Holding.{in_row}
use Rattle.mail_world.specs.Changes.{TakeRecents}
use Rattle.mail_world.specs.Applying.{apply, refused}
use Rattle.mail_stands.specs.Leading.{Leads}
use Rattle.mail_stands.specs.Refusals.{recents_refused}
use Rattle.mailbox_core.specs.declared.faults.MailFault.{MailFault}
use Rattle.mailbox_core.specs.Faults.{answer_of}
use Rattle.mailbox_core.specs.Rooms.{TakesRecents}
use Rattle.mailbox_core.proofs.Behaving.{behaves_alone, error_of}
use Rattle.mailbox_core.proofs.Planned.{planned_made, planned_none}
use Rattle.mailbox_core.proofs.Taking.{not_refused_there, some_lead, taken_ends, taken_lead, taken_placed}
use Rattle.mailbox_core.proofs.recents.take_recent.Goals as goal

pub finish_unrefused-requires-clause-fit : goal.finish_unrefused-requires-clause-fit
finish_unrefused-requires-clause-fit g c =
    let t = c.args.store.now.tables in
    let closed : AreClosed t = subst AreClosed c.tables.ensures c.are_whole.ensures.closed in
    let takes : TakesRecents t c.args.mailbox c.in-Ok.changes.items = subst (λ (u : TableRows). TakesRecents u c.args.mailbox c.in-Ok.changes.items) c.tables-2.ensures c.in-Ok.ensures in
    let ends = taken_ends (record { fit = c.take_recents.ensures.fit; owners = c.take_recents.ensures.owners }) t c.args.mailbox c.in-Ok.changes.items closed takes in
    (ends.after, ends.runs)

pub finish_unrefused-requires-clause-placed : goal.finish_unrefused-requires-clause-placed
finish_unrefused-requires-clause-placed g c =
    taken_placed c.args.store.now.placed c.tables-2.result.now c.args.mailbox c.in-Ok.changes.items c.in-Ok.ensures

pub returns-in-Ok-clause-behaves : goal.returns-in-Ok-clause-behaves
returns-in-Ok-clause-behaves g c =
    let t = c.args.store.now.tables in
    let closed : AreClosed t = subst AreClosed c.tables.ensures c.are_whole.ensures.closed in
    let takes : TakesRecents t c.args.mailbox c.in-Ok.changes.items = subst (λ (u : TableRows). TakesRecents u c.args.mailbox c.in-Ok.changes.items) c.tables-2.ensures c.in-Ok.ensures in
    let ends = taken_ends (record { fit = c.take_recents.ensures.fit; owners = c.take_recents.ensures.owners }) t c.args.mailbox c.in-Ok.changes.items closed takes in
    c.finish_unrefused.ensures.behaves ends.after ends.runs ends.owners

pub returns-in-Ok-clause-makes : goal.returns-in-Ok-clause-makes
returns-in-Ok-clause-makes g c w stands =
    let t = c.args.store.now.tables in
    let id : ℕ = c.args.mailbox in
    let next = apply w (TakeRecents id) in
    let closed : AreClosed t = subst AreClosed c.tables.ensures c.are_whole.ensures.closed in
    let takes : TakesRecents t id c.in-Ok.changes.items = subst (λ (u : TableRows). TakesRecents u id c.in-Ok.changes.items) c.tables-2.ensures c.in-Ok.ensures in
    let leads : Leads in_row t c.in-Ok.changes.items next =
    taken_lead t id next (λ row found. c.take_recents.ensures.leads in_row t w id row closed stands found) c.requires.there c.in-Ok.changes.items takes in
    planned_made g.D.Disk.told (answer_of c.finish_unrefused.result) c.args.store.now c.finish_unrefused.new.store w next tt tt
    (recents_refused t id) (refused w (TakeRecents id)) (c.take_recents.ensures.refusal in_row t w id stands) (not_refused_there t id c.requires.there)
    refl (c.finish_unrefused.ensures.made w next stands leads)

pub returns-in-Err-clause-behaves : goal.returns-in-Err-clause-behaves
returns-in-Err-clause-behaves g c =
    behaves_alone g.D.Disk.told (error_of (Unit {0}) MailFault.NoMemory) c.args.store.now (c.is_settled.ensures.stays c.requires.usable) (λ ok. false≢true ok) (λ e. cc)

pub returns-in-Err-clause-makes : goal.returns-in-Err-clause-makes
returns-in-Err-clause-makes g c w stands =
    let t = c.args.store.now.tables in
    let id : ℕ = c.args.mailbox in
    let next = apply w (TakeRecents id) in
    let closed : AreClosed t = subst AreClosed c.tables.ensures c.are_whole.ensures.closed in
    let lead = some_lead t id next (λ row found. c.take_recents.ensures.leads in_row t w id row closed stands found) c.requires.there in
    planned_none g.D.Disk.told c.args.store.now w next tt (Unit {0}) lead.0 MailFault.NoMemory
    None (refused w (TakeRecents id)) (c.is_settled.ensures.stays c.requires.usable) (sym (not_refused_there t id c.requires.there) ∙ c.take_recents.ensures.refusal in_row t w id stands)
    (inl refl) stands (λ e. (tt, lead.1))
