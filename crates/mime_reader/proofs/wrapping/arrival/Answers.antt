use Rattle.std.proofs.Common.{◌/◌, min, arith}
use Rattle.std.specs.Prelude.{pos}
use Rattle.std.proofs.lemmas.Int.{ints}
use Rattle.date_grammar.specs.Dates.{last_second}
use Rattle.date_grammar.specs.Printing.{printed}
use Rattle.mime_reader.specs.Arrival.{date_at}
use Rattle.mime_reader.proofs.ArrivalLemmas.{is_now, same_date}
use Rattle.mime_reader.proofs.wrapping.arrival.Goals as goal

pub returns : goal.returns
returns c =
    let s = min c.args.now last_second in
    same_date c.print_now.result (printed (date_at s)) _ (pos s) _ (pos (s / 86400))
    (c.law_one_print.ensures.now c.args.now c.print_now.result (printed (date_at s)) c.print_now.ensures (is_now c.law_values.ensures.last_day c.args.now))
    (omega (arith, ints, c.min-seconds.ensures)) (omega (arith, ints, c.min-seconds.ensures))
