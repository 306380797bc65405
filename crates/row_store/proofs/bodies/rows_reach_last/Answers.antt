use Rattle.std.proofs.Common.{◌-◌, ◌^◌, ◌∙◌, Bor, arith}
use Rattle.row_tables.specs.declared.contents.BodyPart.{BodyPart}
use Rattle.row_store.proofs.NewIds.{reaches}
use Rattle.row_store.proofs.bodies.rows_reach_last.Goals as goal

pub returns : goal.returns
returns c =
    c.is_some.ensures
    ∙ reaches c.keys.ensures.numbers (λ (b : Bor BodyPart). b.now) (2 ^ 64 - 1) c.args.tables.now.shared.bodyparts c.bodyparts_rows_from.result c.next.new.self c.next.result (omega arith) c.bodyparts_rows_from.ensures.rows c.next.ensures.steps
