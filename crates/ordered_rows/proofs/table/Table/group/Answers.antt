use Rattle.std.proofs.Common.{ap, ◌∙◌}
use Rattle.ordered_rows.specs.RowKey.{row_key}
use Rattle.ordered_rows.specs.Listed.{leading, is_in_group}
use Rattle.ordered_rows.proofs.Groups.{group_is}
use Rattle.ordered_rows.proofs.table.Table.group.Goals as goal

pub returns : goal.returns
returns g c =
    let key = g.R.Keyed.key_of in
    let k = row_key c.args.key in
    c.of.ensures ∙ ap (leading (is_in_group key k)) c.rows_from.ensures.rows ∙ group_is key k c.args.self.now c.rows_from.ensures.order
