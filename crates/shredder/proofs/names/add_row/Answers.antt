use Rattle.std.proofs.Common.{◌≡◌, ◌++◌, ◌∷◌, [], sym, ap, ◌∙◌, subst}
use Rattle.row_tables.specs.Fits.{applied}
use Rattle.row_tables.specs.TableRows.{TableRows}
use Rattle.row_tables.specs.declared.contents.FieldName.{FieldName}
use Rattle.row_tables.specs.declared.change.RowChange.TheVariants.{InsertFieldName}
use Rattle.shredder.specs.MessageRows.{HasName}
use Rattle.shredder.specs.Making.{Leads, Nowhere, holding}
use Rattle.shredder.proofs.Steps.{name_added}
use Rattle.shredder.proofs.names.add_row.Goals as goal

pub returns : goal.returns
returns c message now bodies b =
    let t = c.args.tables.now in
    let added = holding c.args.shared.now.added bodies in
    let changes = c.args.changes.now.items in
    let name = c.args.name.now in
    let id = c.in-Some.id in
    let new : FieldName = record { id = id; name = name } in
    let pushed : c.push.new.self.items ≡ changes ++ InsertFieldName new ∷ [] = c.in_ok-push.ensures.items ∙ ap (λ (r : FieldName). changes ++ InsertFieldName r ∷ []) c.in_ok-row.ensures in
    let grown : c.apply.new.self ≡ applied c.args.shared.now.added (InsertFieldName new) = c.in_ok-apply.ensures.ok ∙ ap (λ (r : FieldName). applied c.args.shared.now.added (InsertFieldName r)) c.in_ok-added.ensures in
    subst (λ (a : TableRows). Leads message t now added changes Nowhere (λ after. HasName after.shared.field_names id name) (holding a bodies) c.push.new.self.items) (sym grown)
    (name_added message t c.row_laws.ensures now added changes c.push.new.self.items name id b c.requires.text c.requires.new c.requires.not_added c.in-Some.ensures.0 c.in-Some.ensures.1 pushed)
