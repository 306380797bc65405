use Rattle.std.proofs.Common.{◌≡◌, ◌++◌, ◌∷◌, [], sym, ap, ◌∙◌, subst}
use Rattle.row_tables.specs.Fits.{applied}
use Rattle.row_tables.specs.TableRows.{TableRows}
use Rattle.row_tables.specs.declared.contents.AddressRow.{AddressRow}
use Rattle.row_tables.specs.declared.change.RowChange.TheVariants.{InsertAddressRow}
use Rattle.shredder.specs.MessageRows.{AddressTexts, HasAddress}
use Rattle.shredder.specs.Making.{Leads, Nowhere, holding}
use Rattle.shredder.proofs.Steps.{address_added}
use Rattle.shredder.proofs.addresses.add_row.Goals as goal

pub returns : goal.returns
returns c message now bodies b =
    let t = c.args.tables.now in
    let added = holding c.args.shared.now.added bodies in
    let changes = c.args.changes.now.items in
    let texts : AddressTexts = record { name = c.args.texts.name.now; local = c.args.texts.local.now; domain = c.args.texts.domain.now } in
    let id = c.in-Some.id in
    let new : AddressRow = record { id = id; name = texts.name; local = texts.local; domain = texts.domain } in
    let pushed : c.push.new.self.items ≡ changes ++ InsertAddressRow new ∷ [] = c.in_ok-push.ensures.items ∙ ap (λ (r : AddressRow). changes ++ InsertAddressRow r ∷ []) c.in_ok-row.ensures in
    let grown : c.apply.new.self ≡ applied c.args.shared.now.added (InsertAddressRow new) = c.in_ok-apply.ensures.ok ∙ ap (λ (r : AddressRow). applied c.args.shared.now.added (InsertAddressRow r)) c.in_ok-added.ensures in
    subst (λ (a : TableRows). Leads message t now added changes Nowhere (λ after. HasAddress after.shared.addresses id texts) (holding a bodies) c.push.new.self.items) (sym grown)
    (address_added message t c.row_laws.ensures now added changes c.push.new.self.items texts id b c.requires.text.0 c.requires.text.1 c.requires.text.2 c.requires.new c.requires.not_added c.in-Some.ensures.0 c.in-Some.ensures.1 pushed)
