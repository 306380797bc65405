use Rattle.std.proofs.Common.{ap, ◌∙◌}
use Rattle.ordered_rows.specs.RowKey.{RowKey}
use Rattle.ordered_rows.specs.Listed.{leading, has_number, rows_from}
use Rattle.ordered_rows.proofs.Numbers.{numbered_is}
use Rattle.ordered_rows.proofs.table.Table.numbered.Goals as goal

pub returns : goal.returns
returns g c =
    let key = g.R.Keyed.key_of in
    let n = c.args.number in
    c.of.ensures ∙ ap (leading (has_number key n)) (c.rows_from.ensures.rows ∙ ap (λ (k : RowKey). rows_from key k c.args.self.now) c.of_number.ensures) ∙ numbered_is key n c.args.self.now c.rows_from.ensures.order
