use Rattle.std.proofs.Common.{◌≡◌, ℕ, List, [], ◌∷◌, ◌++◌, Some, None, refl, ap, ◌∙◌, sym, subst, rules}
use Rattle.row_tables.specs.TableRows.{TableRows}
use Rattle.row_tables.specs.declared.contents.BodyPart.{BodyPart}
use Rattle.row_tables.specs.declared.change.RowChange.{RowChange}
use Rattle.row_tables.specs.declared.change.RowChange.TheVariants.{InsertBodyPart}
use Rattle.row_store.specs.Holding.{in_row}
use Rattle.row_store.specs.Bodies.{IsNewBody, IsThere, PlacesBytes, HasBytes as BodyHasBytes}
use Rattle.shredder.specs.Making.{RowHasBytes, HaveIds, Leads, Nowhere, holding}
use Rattle.shredder.proofs.Steps.{leads_none}
use Rattle.shredder.proofs.PlacedBodies.{lacks_id, ids_grown, body_found, body_added}
use Rattle.shredder.proofs.bodies.add_body.Goals as goal

pub returns-in_ok-push-in-Some-clause-ready : goal.returns-in_ok-push-in-Some-clause-ready
returns-in_ok-push-in-Some-clause-ready g c =
    let old = c.args.store.now in
    let some : c.in_ok-id.field-0.change ≡ Some c.in-Some.change = search rules in
    let it = subst (PlacesBytes in_row old.tables.shared.bodyparts old.placed c.place_body.new.self.placed c.args.bytes.now c.in_ok-id.field-0.id) some c.in_ok-id.ensures.places in
    record { usable = c.in_ok-id.ensures.keeps.goes_on refl; placed = subst HaveIds (sym it.4) (ids_grown old.placed it.0 c.requires.ready.placed (lacks_id it.0.id old.placed it.3.not_placed)) }

pub returns-in_ok-push-in-Some-clause-rows : goal.returns-in_ok-push-in-Some-clause-rows
returns-in_ok-push-in-Some-clause-rows g c message t now added e b =
    let old = c.args.store.now in
    let new = c.place_body.new.self in
    let bytes = c.args.bytes.now in
    let id : ℕ = c.in_ok-id.field-0.id in
    let changes0 = c.args.changes.now.items in
    let changes1 = c.push.new.changes.items in
    let some : c.in_ok-id.field-0.change ≡ Some c.in-Some.change = search rules in
    let it = subst (PlacesBytes in_row old.tables.shared.bodyparts old.placed new.placed bytes id) some c.in_ok-id.ensures.places in
    let is = subst (λ (u : TableRows). IsNewBody in_row u.shared.bodyparts old.placed bytes it.0) (sym e) it.3 in
    let pushed : changes1 ≡ changes0 ++ InsertBodyPart it.0 ∷ [] = c.in_ok-push-in-Some.ensures ∙ ap (λ (r : RowChange). changes0 ++ r ∷ []) it.1 in
    let step = body_added message t c.row_laws.ensures now added old.placed changes0 changes1 bytes it.0 b c.requires.text is pushed in
    subst (λ (i : ℕ). Leads message t now (holding added old.placed) changes0 Nowhere (λ after. RowHasBytes after.shared.bodyparts i bytes) (holding added new.placed) changes1) it.2
    (subst (λ (l : List BodyPart). Leads message t now (holding added old.placed) changes0 Nowhere (λ after. RowHasBytes after.shared.bodyparts it.0.id bytes) (holding added l) changes1) (sym it.4) step)

pub returns-in-None-clause-rows : goal.returns-in-None-clause-rows
returns-in-None-clause-rows g c message t now added e b =
    let old = c.args.store.now in
    let new = c.place_body.new.self in
    let bytes = c.args.bytes.now in
    let id : ℕ = c.in_ok-id.field-0.id in
    let changes = c.args.changes.now.items in
    let none : c.in_ok-id.field-0.change ≡ None = search rules in
    let it = subst (PlacesBytes in_row old.tables.shared.bodyparts old.placed new.placed bytes id) none c.in_ok-id.ensures.places in
    let found = subst (λ (u : TableRows). (body : BodyPart) × IsThere u.shared.bodyparts old.placed body × (body.id ≡ id) × BodyHasBytes in_row body bytes) (sym e) it.0 in
    subst (λ (l : List BodyPart). Leads message t now (holding added old.placed) changes Nowhere (λ after. RowHasBytes after.shared.bodyparts id bytes) (holding added l) changes) (sym it.1)
    (leads_none message t now (holding added old.placed) changes Nowhere (λ after. RowHasBytes after.shared.bodyparts id bytes) b (body_found message t c.row_laws.ensures now added old.placed bytes id b c.requires.ready.placed found))
