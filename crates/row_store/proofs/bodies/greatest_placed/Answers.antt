use Rattle.std.proofs.Common.{◌≡◌, ap, get_or, max, nat_cmp, sym, ◌∙◌, arith}
use Rattle.row_tables.specs.declared.contents.BodyPart.{BodyPart}
use Rattle.row_store.proofs.NewIds.{greatest_more}
use Rattle.row_store.proofs.bodies.greatest_placed.Goals as goal

pub loop-body-preserved : goal.loop-body-preserved
loop-body-preserved c =
    let item = c.body-item.result in
    let more = greatest_more c.args.placed.now c.loop-body.body-index item c.loop-body-test.true in
    let id : item.id ≡ (get_or c.args.placed.now c.loop-body.body-index item).id = ap (λ (r : BodyPart). r.id) c.body-item.is in
    let greater : c.max-greatest.result ≡ max c.loop-body.greatest item.id = grind arith in
    omega arith
