use Rattle.std.proofs.Common.{sym}
use Rattle.shredder.specs.MessageRows.{AddressTexts, HasAddress}
use Rattle.shredder.specs.Making.{Nowhere, holding}
use Rattle.shredder.proofs.Steps.{leads_none, address_first, address_second}
use Rattle.shredder.proofs.addresses.add_address.Goals as goal

pub returns-in-Some : goal.returns-in-Some
returns-in-Some c message now bodies b =
    let t = c.args.tables.now in
    let added = holding c.args.shared.now.added bodies in
    let texts : AddressTexts = record { name = c.args.texts.name.now; local = c.args.texts.local.now; domain = c.args.texts.domain.now } in
    leads_none message t now added c.args.changes.now.items Nowhere (λ after. HasAddress after.shared.addresses c.in-Some.id texts) b
    (address_first message t c.row_laws.ensures now added texts c.in-Some.id c.are_whole.ensures.ordered b (sym c.in-Some.ensures))

pub returns-in-Some-address_id : goal.returns-in-Some-address_id
returns-in-Some-address_id c message now bodies b =
    let t = c.args.tables.now in
    let added = holding c.args.shared.now.added bodies in
    let texts : AddressTexts = record { name = c.args.texts.name.now; local = c.args.texts.local.now; domain = c.args.texts.domain.now } in
    let id = c.in-Some-address_id.id in
    leads_none message t now added c.args.changes.now.items Nowhere (λ after. HasAddress after.shared.addresses id texts) b
    (address_second message t c.row_laws.ensures now added texts id c.are_whole-2.ensures.ordered.addresses b (sym c.in-Some-address_id.ensures))
