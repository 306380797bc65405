use Rattle.std.proofs.Common.{ap, ◌∙◌}
use Rattle.ordered_rows.specs.Listed.{leading, is_under}
use Rattle.ordered_rows.proofs.Prefixes.{under_is}
use Rattle.ordered_rows.proofs.table.Table.under.Goals as goal

pub returns : goal.returns
returns g c =
    let key = g.R.Keyed.key_of in
    c.of.ensures ∙ ap (leading (is_under key c.args.number c.args.text.now)) c.rows_from.ensures.rows ∙ under_is key c.args.number c.args.text.now c.args.self.now c.rows_from.ensures.order
