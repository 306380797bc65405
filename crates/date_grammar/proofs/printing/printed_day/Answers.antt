use Rattle.std.proofs.Common.{refl}
use Rattle.date_grammar.proofs.DayLemmas.{exists_bounds}
use Rattle.date_grammar.proofs.NameLemmas.{three_weekday, three_month}
use Rattle.date_grammar.proofs.printing.printed_day.Goals as goal

pub returns : goal.returns
returns c =
    let bounds = exists_bounds c.args.day c.requires in
    let w = three_weekday c.args.day in
    let m = three_month c.args.day.month bounds.0 bounds.1 in
    rw (c.weekday_name-w.ensures, c.weekday.ensures.value, w.is, c.month_name-m.ensures, m.is, c.two_digits-d.ensures, c.four_digits-y.ensures) refl
