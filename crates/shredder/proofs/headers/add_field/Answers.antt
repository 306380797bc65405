use Rattle.std.proofs.Common.{◌≡◌, ℕ, ◌++◌, ◌∷◌, List, ap, ◌∙◌, subst}
use Rattle.row_tables.specs.declared.change.RowChange.TheVariants.{InsertHeaderField}
use Rattle.shredder.specs.MessageRows.{HasName}
use Rattle.shredder.specs.Making.{Leads, Nowhere, field_row, value_changes, holding}
use Rattle.shredder.proofs.FieldSteps.{field_step}
use Rattle.shredder.proofs.headers.add_field.Goals as goal

pub returns : goal.returns
returns c now bodies b part before =
    let t = c.args.tables.now in
    let message : ℕ = c.args.at.message in
    let path = c.args.at.path.now in
    let place : ℕ = c.args.at.place in
    let field = c.args.field.now in
    let added0 = holding c.args.shared.now.added bodies in
    let added1 = holding c.add_name.new.shared.added bodies in
    let added2 = holding c.add_addresses.new.shared.added bodies in
    let changes0 = c.args.changes.now.items in
    let changes1 = c.add_name.new.changes.items in
    let changes2 = c.add_addresses.new.changes.items in
    let changes3 = c.push_field.new.changes.items in
    let name : ℕ = c.in_ok-name.name in
    let ids : List ℕ = c.in_ok-addresses.addresses.items in
    let names = subst (λ (n : List ℕ). Leads message t now added0 changes0 Nowhere (λ after. HasName after.shared.field_names name n) added1 changes1) c.as_slice.ensures (c.in_ok-name.ensures message now bodies b) in
    let addresses = c.in_ok-addresses.ensures.ids message names.after bodies names.between in
    let grown : changes3 ≡ changes2 ++ InsertHeaderField (field_row message path place field name) ∷ value_changes message path place field ids =
    c.in_ok-push_field.ensures.rows ∙ ap (λ (l : List ℕ). changes2 ++ InsertHeaderField (field_row message path place field name) ∷ value_changes message path place field l) c.deref.ensures.value in
    field_step c.row_laws.ensures message t path place field now added0 added1 added2 changes0 changes1 changes2 changes3 name ids b part before c.requires.fits c.requires.path c.in_ok-push_field.ensures.printed names addresses grown
