use Rattle.std.proofs.Common.{◌≡◌, ◌∙◌, ℕ, List, refl, ap, subst, rules}
use Rattle.row_tables.specs.TableRows.{TableRows, no_rows}
use Rattle.row_tables.specs.declared.contents.BodyPart.{BodyPart}
use Rattle.row_tables.specs.References.{AreOrdered, AreClosed}
use Rattle.ordered_rows.specs.Listed.{IsNewNumber}
use Rattle.row_tables.specs.Keys.{message_key}
use Rattle.shredder.specs.Making.{holding}
use Rattle.shredder.proofs.LeftAlone.{left_alone}
use Rattle.shredder.proofs.Shredded.{begun, between, open_all, placed_all, shreds}
use Rattle.shredder.proofs.rows.rows_of.Goals as goal

pub returns-in_err-id-clause-keeps : goal.returns-in_err-id-clause-keeps
returns-in_err-id-clause-keeps g c =
    left_alone g.D.Disk.told _ _ c.args.store.now c.args.store.now (record { files = refl; tables = refl }) (c.is_settled.ensures.stays c.requires.usable) (search rules) (search rules)

pub returns-in_err-add_node-clause-keeps : goal.returns-in_err-add_node-clause-keeps
returns-in_err-add_node-clause-keeps g c =
    left_alone g.D.Disk.told _ _ c.args.store.now c.add_node.new.store c.add_node.ensures.same (c.is_settled.ensures.stays c.requires.usable) (search rules) (search rules)

pub returns-clause-keeps : goal.returns-clause-keeps
returns-clause-keeps g c =
    left_alone g.D.Disk.told _ _ c.args.store.now c.add_node.new.store c.add_node.ensures.same (c.is_settled.ensures.stays c.requires.usable) (search rules) (search rules)

pub returns-clause-rows : goal.returns-clause-rows
returns-clause-rows g c =
    let laws = c.row_laws.ensures in
    let t = c.args.store.now.tables in
    let placed = c.args.store.now.placed in
    let mail = c.args.mail.now in
    let id : ℕ = c.in_ok-id.id in
    let ordered = subst AreOrdered c.tables.ensures c.are_whole.ensures.ordered in
    let closed = subst AreClosed c.tables.ensures c.are_whole.ensures.closed in
    let new_id = c.new_number.ensures t.mails.messages id ordered.messages (subst (λ (u : TableRows). IsNewNumber message_key u.mails.messages id) c.tables-2.ensures c.in_ok-id.ensures.id) in
    let unknown = c.message_is_unknown.ensures t id closed new_id in
    let added0 = holding c.new-shared.result.added placed in
    let added1 = holding c.add_node.new.shared.added c.add_node.new.store.placed in
    let none : added0 ≡ no_rows = ap (λ (a : TableRows). holding a placed) c.new-shared.ensures ∙ ap (λ (l : List BodyPart). holding no_rows l) c.requires.fresh in
    let b = between laws t ordered closed id new_id unknown mail added0 none in
    let l = c.in_ok-add_node.ensures.rows t (begun laws t ordered closed id new_id unknown mail) refl b (open_all laws t ordered closed id new_id unknown mail) in
    shreds laws t ordered closed id new_id unknown mail added0 added1 c.in_ok-id.changes.items c.add_node.new.changes.items c.in_ok-id.ensures.rows b l

pub returns-clause-fit : goal.returns-clause-fit
returns-clause-fit g c = let made = returns-clause-rows g c in (made.after, made.runs)

pub returns-clause-placed : goal.returns-clause-placed
returns-clause-placed g c =
    let laws = c.row_laws.ensures in
    let t = c.args.store.now.tables in
    let placed = c.args.store.now.placed in
    let mail = c.args.mail.now in
    let id : ℕ = c.in_ok-id.id in
    let ordered = subst AreOrdered c.tables.ensures c.are_whole.ensures.ordered in
    let closed = subst AreClosed c.tables.ensures c.are_whole.ensures.closed in
    let new_id = c.new_number.ensures t.mails.messages id ordered.messages (subst (λ (u : TableRows). IsNewNumber message_key u.mails.messages id) c.tables-2.ensures c.in_ok-id.ensures.id) in
    let unknown = c.message_is_unknown.ensures t id closed new_id in
    let added0 = holding c.new-shared.result.added placed in
    let added1 = holding c.add_node.new.shared.added c.add_node.new.store.placed in
    let none : added0 ≡ no_rows = ap (λ (a : TableRows). holding a placed) c.new-shared.ensures ∙ ap (λ (l : List BodyPart). holding no_rows l) c.requires.fresh in
    let b = between laws t ordered closed id new_id unknown mail added0 none in
    let l = c.in_ok-add_node.ensures.rows t (begun laws t ordered closed id new_id unknown mail) refl b (open_all laws t ordered closed id new_id unknown mail) in
    placed_all laws t ordered closed id new_id unknown mail added0 added1 c.in_ok-id.changes.items c.add_node.new.changes.items c.in_ok-id.ensures.rows l
