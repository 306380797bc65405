use Rattle.std.proofs.Common.{◌≡◌, ℕ, List, [], Option, Some, IfOk, ap, ◌∙◌, sym, subst, rules}
use Rattle.shredder.specs.MessageRows.{AddressTexts, IsAddressId, texts_of}
use Rattle.shredder.specs.Making.{Leads, Nowhere, holding}
use Rattle.shredder.proofs.addresses.add_item.Goals as goal

pub returns-in-Address : goal.returns-in-Address
returns-in-Address c message now bodies b =
    let texts : AddressTexts = record { name = c.as_slice.result.now; local = c.as_slice-in-Address.result.now; domain = c.as_slice-in-Address-2.result.now } in
    let name : texts.name ≡ c.in-Address.name = search rules in
    let local : texts.local ≡ c.in-Address.local = search rules in
    let domain : texts.domain ≡ c.in-Address.domain = search rules in
    let same : texts ≡ record { name = c.in-Address.name; local = c.in-Address.local; domain = c.in-Address.domain } =
    ap (λ x. record { name = x; local = texts.local; domain = texts.domain }) name ∙ ap (λ x. record { name = c.in-Address.name; local = x; domain = texts.domain }) local ∙ ap (λ x. record { name = c.in-Address.name; local = c.in-Address.local; domain = x }) domain in
    let is : texts_of c.args.item.now ≡ Some texts = ap texts_of c.in-Address.is ∙ ap Some (sym same) in
    subst (λ (o : Option AddressTexts). IfOk c.add_address.result (λ id. Leads message c.args.tables.now now (holding c.args.shared.now.added bodies) c.args.changes.now.items Nowhere (λ after. IsAddressId after.shared.addresses o id) (holding c.add_address.new.shared.added bodies) c.add_address.new.changes.items)) (sym is)
    (c.add_address.ensures message now bodies b)

pub returns-in-Group : goal.returns-in-Group
returns-in-Group c message now bodies b =
    let texts : AddressTexts = record { name = c.as_slice-in-Group.result.now; local = []; domain = [] } in
    let name : texts.name ≡ c.in-Group.name = search rules in
    let is : texts_of c.args.item.now ≡ Some texts = ap texts_of c.in-Group.is ∙ ap (λ (x : List ℕ). Some (record { name = x; local = []; domain = [] })) (sym name) in
    subst (λ (o : Option AddressTexts). IfOk c.add_address-in-Group.result (λ id. Leads message c.args.tables.now now (holding c.args.shared.now.added bodies) c.args.changes.now.items Nowhere (λ after. IsAddressId after.shared.addresses o id) (holding c.add_address-in-Group.new.shared.added bodies) c.add_address-in-Group.new.changes.items)) (sym is)
    (c.add_address-in-Group.ensures message now bodies b)
