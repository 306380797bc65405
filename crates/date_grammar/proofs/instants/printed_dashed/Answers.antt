use Rattle.std.proofs.Common.{refl}
use Rattle.date_grammar.proofs.DayLemmas.{exists_bounds}
use Rattle.date_grammar.proofs.NameLemmas.{three_month}
use Rattle.date_grammar.proofs.instants.printed_dashed.Goals as goal

pub returns : goal.returns
returns c =
    let bounds = exists_bounds c.args.day c.requires in
    let m = three_month c.args.day.month bounds.0 bounds.1 in
    rw (c.month_name-m.ensures, m.is, c.two_digits-d.ensures, c.four_digits-y.ensures) refl
