use Rattle.std.proofs.Common.{ℕ, List, [], ◌∷◌, None, refl, sym, subst}
use Rattle.std.proofs.lemmas.Bool.{false≢true}
use Rattle.row_tables.specs.TableRows.{TableRows}
use Rattle.row_tables.specs.References.{AreClosed, AreOrdered}
use Rattle.row_store.specs.Holding.{in_row}
use Rattle.mail_world.specs.Names.{mailbox_name}
use Rattle.mail_world.specs.Changes.{BadName, Absent, Exists, Rename}
use Rattle.mail_world.specs.Applying.{apply, refused}
use Rattle.mailbox_core.specs.Renaming.{PlansNoRename, PlansRename}
use Rattle.mailbox_core.proofs.Behaving.{behaves_alone, error_of}
use Rattle.mailbox_core.proofs.Planned.{planned_made, refuses_none}
use Rattle.mailbox_core.proofs.PlannedNames.{Laws, rename_answers, rename_ends, rename_led, rename_none, rename_placed, rename_sound}
use Rattle.mailbox_core.proofs.renaming.rename_other.Goals as goal

pub finish-requires-clause-fit : goal.finish-requires-clause-fit
finish-requires-clause-fit g c =
    let t = c.args.store.now.tables in
    let name = mailbox_name c.args.to.now in
    let ordered : AreOrdered t = subst (λ (u : TableRows). AreOrdered u) c.tables.ensures c.are_whole.ensures.ordered in
    let closed : AreClosed t = subst (λ (u : TableRows). AreClosed u) c.tables.ensures c.are_whole.ensures.closed in
    let plan : PlansRename t c.args.user c.args.from.now name c.in-Ok.changes.items =
    subst (λ (n : List ℕ). PlansRename t c.args.user c.args.from.now n c.in-Ok.changes.items) c.canonical_name.ensures (subst (λ (u : TableRows). PlansRename u c.args.user c.args.from.now c.canonical_name.result.now c.in-Ok.changes.items) c.tables-2.ensures c.in-Ok.ensures.plan) in
    let laws : Laws = record { refusal = c.rename.ensures.refusal; rows = c.rename.ensures.rows; leads = c.rename.ensures.leads; fit = c.rename.ensures.fit; owners = c.rename.ensures.owners } in
    let ends = rename_ends laws t c.args.user c.args.from.now name c.in-Ok.changes.items ordered closed plan in
    (ends.after, ends.runs)

pub finish-requires-clause-placed : goal.finish-requires-clause-placed
finish-requires-clause-placed g c =
    rename_placed c.args.store.now.placed c.tables-2.result.now c.args.user c.args.from.now c.canonical_name.result.now c.in-Ok.changes.items c.in-Ok.ensures.plan

pub returns-in-Ok-clause-behaves : goal.returns-in-Ok-clause-behaves
returns-in-Ok-clause-behaves g c =
    let t = c.args.store.now.tables in
    let name = mailbox_name c.args.to.now in
    let ordered : AreOrdered t = subst (λ (u : TableRows). AreOrdered u) c.tables.ensures c.are_whole.ensures.ordered in
    let closed : AreClosed t = subst (λ (u : TableRows). AreClosed u) c.tables.ensures c.are_whole.ensures.closed in
    let plan : PlansRename t c.args.user c.args.from.now name c.in-Ok.changes.items =
    subst (λ (n : List ℕ). PlansRename t c.args.user c.args.from.now n c.in-Ok.changes.items) c.canonical_name.ensures (subst (λ (u : TableRows). PlansRename u c.args.user c.args.from.now c.canonical_name.result.now c.in-Ok.changes.items) c.tables-2.ensures c.in-Ok.ensures.plan) in
    let laws : Laws = record { refusal = c.rename.ensures.refusal; rows = c.rename.ensures.rows; leads = c.rename.ensures.leads; fit = c.rename.ensures.fit; owners = c.rename.ensures.owners } in
    let ends = rename_ends laws t c.args.user c.args.from.now name c.in-Ok.changes.items ordered closed plan in
    c.finish.ensures.behaves ends.after ends.runs ends.owners

pub returns-in-Ok-clause-makes : goal.returns-in-Ok-clause-makes
returns-in-Ok-clause-makes g c w stands =
    let t = c.args.store.now.tables in
    let user : ℕ = c.args.user in
    let from = c.args.from.now in
    let to = c.args.to.now in
    let name = mailbox_name to in
    let next = apply w (Rename user from to) in
    let ordered : AreOrdered t = subst (λ (u : TableRows). AreOrdered u) c.tables.ensures c.are_whole.ensures.ordered in
    let closed : AreClosed t = subst (λ (u : TableRows). AreClosed u) c.tables.ensures c.are_whole.ensures.closed in
    let plan : PlansRename t user from name c.in-Ok.changes.items =
    subst (λ (n : List ℕ). PlansRename t user from n c.in-Ok.changes.items) c.canonical_name.ensures (subst (λ (u : TableRows). PlansRename u user from c.canonical_name.result.now c.in-Ok.changes.items) c.tables-2.ensures c.in-Ok.ensures.plan) in
    let laws : Laws = record { refusal = c.rename.ensures.refusal; rows = c.rename.ensures.rows; leads = c.rename.ensures.leads; fit = c.rename.ensures.fit; owners = c.rename.ensures.owners } in
    planned_made g.D.Disk.told c.finish.result c.args.store.now c.finish.new.store w next tt tt
    None (refused w (Rename user from to)) (sym (c.rename.ensures.refusal in_row t w user from to None stands c.requires.other plan.can)) refl refl
    (c.finish.ensures.made w next stands (rename_led laws t w user from to c.in-Ok.changes.items ordered closed stands c.requires.other plan))

pub returns-in-Ok-clause-refuses : goal.returns-in-Ok-clause-refuses
returns-in-Ok-clause-refuses g c = refuses_none (BadName ∷ Absent ∷ Exists ∷ []) c.finish.result c.finish.ensures.outage

pub returns-in-Err-clause-behaves : goal.returns-in-Err-clause-behaves
returns-in-Err-clause-behaves g c =
    behaves_alone g.D.Disk.told (error_of (Unit {0}) c.in-Err.fault) c.args.store.now (c.is_settled.ensures.stays c.requires.usable) (λ ok. false≢true ok)
    (rename_sound c.tables-2.result.now c.args.user c.args.from.now c.canonical_name.result.now c.in-Err.fault c.in-Err.ensures.none)

pub returns-in-Err-clause-makes : goal.returns-in-Err-clause-makes
returns-in-Err-clause-makes g c w stands =
    let t = c.args.store.now.tables in
    let user : ℕ = c.args.user in
    let from = c.args.from.now in
    let to = c.args.to.now in
    let ordered : AreOrdered t = subst (λ (u : TableRows). AreOrdered u) c.tables.ensures c.are_whole.ensures.ordered in
    let closed : AreClosed t = subst (λ (u : TableRows). AreClosed u) c.tables.ensures c.are_whole.ensures.closed in
    let none : PlansNoRename t user from (mailbox_name to) c.in-Err.fault =
    subst (λ (n : List ℕ). PlansNoRename t user from n c.in-Err.fault) c.canonical_name.ensures (subst (λ (u : TableRows). PlansNoRename u user from c.canonical_name.result.now c.in-Err.fault) c.tables-2.ensures c.in-Err.ensures.none) in
    let laws : Laws = record { refusal = c.rename.ensures.refusal; rows = c.rename.ensures.rows; leads = c.rename.ensures.leads; fit = c.rename.ensures.fit; owners = c.rename.ensures.owners } in
    rename_none laws g.D.Disk.told c.args.store.now w user from to c.in-Err.fault (c.is_settled.ensures.stays c.requires.usable) ordered closed stands c.requires.other none

pub returns-in-Err-clause-refuses : goal.returns-in-Err-clause-refuses
returns-in-Err-clause-refuses g c = rename_answers c.tables-2.result.now c.args.user c.args.from.now c.canonical_name.result.now c.in-Err.fault c.in-Err.ensures.none
