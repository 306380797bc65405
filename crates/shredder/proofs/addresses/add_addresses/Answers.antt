use Rattle.std.proofs.Common.{◌≡◌, List, IfOk, ap, ◌∙◌, sym, subst}
use Rattle.mime_tree.specs.declared.values.Item.{Item}
use Rattle.shredder.specs.MessageRows.{items_of}
use Rattle.shredder.specs.Making.{AreAddressIds, Leads, Nowhere, holding}
use Rattle.shredder.proofs.addresses.add_addresses.Goals as goal

pub returns-in-Addresses-clause-ids : goal.returns-in-Addresses-clause-ids
returns-in-Addresses-clause-ids c message now bodies b =
    let is : items_of c.args.value.now ≡ c.as_slice.result.now = ap items_of c.in-Addresses.is ∙ sym c.as_slice.ensures in
    subst (λ (l : List Item). IfOk c.add_items.result (λ ids. Leads message c.args.tables.now now (holding c.args.shared.now.added bodies) c.args.changes.now.items Nowhere (λ after. AreAddressIds after.shared.addresses l ids.items) (holding c.add_items.new.shared.added bodies) c.add_items.new.changes.items)) (sym is)
    (c.add_items.ensures.ids message now bodies b)
