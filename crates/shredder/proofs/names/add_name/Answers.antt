use Rattle.std.proofs.Common.{sym}
use Rattle.shredder.specs.MessageRows.{HasName}
use Rattle.shredder.specs.Making.{Nowhere, holding}
use Rattle.shredder.proofs.Steps.{leads_none, name_first, name_second}
use Rattle.shredder.proofs.names.add_name.Goals as goal

pub returns-in-Some : goal.returns-in-Some
returns-in-Some c message now bodies b =
    let t = c.args.tables.now in
    let added = holding c.args.shared.now.added bodies in
    let name = c.args.name.now in
    leads_none message t now added c.args.changes.now.items Nowhere (λ after. HasName after.shared.field_names c.in-Some.id name) b
    (name_first message t c.row_laws.ensures now added name c.in-Some.id c.are_whole.ensures.ordered b (sym c.in-Some.ensures))

pub returns-in-Some-field_name_id : goal.returns-in-Some-field_name_id
returns-in-Some-field_name_id c message now bodies b =
    let t = c.args.tables.now in
    let added = holding c.args.shared.now.added bodies in
    let name = c.args.name.now in
    let id = c.in-Some-field_name_id.id in
    leads_none message t now added c.args.changes.now.items Nowhere (λ after. HasName after.shared.field_names id name) b
    (name_second message t c.row_laws.ensures now added name id c.are_whole-2.ensures.ordered.field_names b (sym c.in-Some-field_name_id.ensures))
