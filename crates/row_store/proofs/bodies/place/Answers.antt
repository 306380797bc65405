use Rattle.std.proofs.Common.{◌++◌, sym, ◌∙◌, subst}
use Rattle.row_tables.specs.declared.contents.BodyPart.{BodyPart}
use Rattle.row_store.specs.Holding.{in_row}
use Rattle.row_store.specs.Bodies.{HasBytes, IsThere, IsNewId}
use Rattle.row_store.proofs.NewIds.{placed_new}
use Rattle.row_store.proofs.bodies.place.Goals as goal

pub returns-clause-places : goal.returns-clause-places
returns-clause-places c =
    let rows = c.args.tables.now.shared.bodyparts in
    let placed = c.args.placed.now.items in
    placed_new rows placed c.push.new.self.items c.args.bytes.now c.digest-digest.result c.in_ok-id.id c.in_ok-new_row.field-0 c.in_ok-new_row-2.field-0 c.in_ok-new_row.ensures c.in_ok-new_row-2.ensures c.digest-digest.ensures
    (subst (λ l. IsNewId (rows ++ l) c.in_ok-id.id) c.deref-2.ensures.value c.in_ok-id.ensures)
    (subst (λ l. (other : BodyPart) → IsThere rows l other → HasBytes in_row other c.args.bytes.now → ⊥) c.deref.ensures.value c.in_default.ensures.none)
    c.in_ok-push.ensures.items
