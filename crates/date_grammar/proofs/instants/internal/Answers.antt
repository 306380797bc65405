use Rattle.std.proofs.Common.{refl}
use Rattle.date_grammar.proofs.DayLemmas.{exists_bounds}
use Rattle.date_grammar.proofs.NameLemmas.{three_month}
use Rattle.date_grammar.proofs.instants.internal.Goals as goal

pub returns : goal.returns
returns c =
    let bounds = exists_bounds c.args.date.day c.requires.day in
    let m = three_month c.args.date.day.month bounds.0 bounds.1 in
    rw (c.printed_dashed-d.ensures, m.is, c.printed_time-t.ensures, c.printed_zone-z.ensures) refl
