use Rattle.std.proofs.Common.{sym}
use Rattle.date_grammar.proofs.StampLemmas.{date_exists}
use Rattle.date_grammar.proofs.stamps.read_day.Goals as goal

pub number_of-requires : goal.number_of-requires
number_of-requires c = date_exists c.args.text.now c.in_ok-day.day (sym c.in_ok-day.ensures)
