use Rattle.std.proofs.Common.{◌≡◌, Some, None, Option, IfNone, inl, inr, sym, subst}
use Rattle.std.specs.List.{Contains}
use Rattle.ordered_rows.specs.RowKey.{number_key}
use Rattle.ordered_rows.specs.Listed.{row_at}
use Rattle.row_tables.specs.Keys.{body_part_key}
use Rattle.row_tables.specs.declared.contents.BodyPart.{BodyPart}
use Rattle.row_store.specs.Holding.{in_row}
use Rattle.row_store.specs.Bodies.{HasBytes, IsThere}
use Rattle.row_store.proofs.FoundRows.{row_id_is}
use Rattle.row_store.proofs.bodies.find.Goals as goal

pub returns-in-Some-clause-some : goal.returns-in-Some-clause-some
returns-in-Some-clause-some c =
    let rows = c.args.tables.now.shared.bodyparts in
    let found = c.in-Some.ensures.some in
    let id : found.0.id ≡ c.in-Some.id = row_id_is rows c.in-Some.id found.0 found.1 in
    (found.0, inl (subst (λ i. row_at body_part_key (number_key i) rows ≡ Some found.0) (sym id) found.1), id, found.2)

if_none : {T P Q : Type 0} (o : Option T) → (P → Q) → IfNone o P → IfNone o Q
if_none None step fact = step fact
if_none (Some x) step fact = tt

pub returns-in-None-clause-none : goal.returns-in-None-clause-none
returns-in-None-clause-none c =
    let rows = c.args.tables.now.shared.bodyparts in
    let placed = c.args.placed.now in
    let bytes = c.args.bytes.now in
    if_none {P = (body : BodyPart) → Contains placed body → HasBytes in_row body bytes → ⊥} {Q = (body : BodyPart) → IsThere rows placed body → HasBytes in_row body bytes → ⊥} c.find_placed.result
    (λ none body there has. nowhere none body has there) c.find_placed.ensures.none
  where
    nowhere : ((body : BodyPart) → Contains c.args.placed.now body → HasBytes in_row body c.args.bytes.now → ⊥) → (body : BodyPart) → HasBytes in_row body c.args.bytes.now → IsThere c.args.tables.now.shared.bodyparts c.args.placed.now body → ⊥
    nowhere none body has (inl at) = c.in-None.ensures.none body.id (body, at, has)
    nowhere none body has (inr at) = none body at has
