use Rattle.std.proofs.Common.{sym}
use Rattle.date_grammar.proofs.PartLemmas.{reading_date}
use Rattle.date_grammar.proofs.header.read_date.Goals as goal

pub sent-requires : goal.sent-requires
sent-requires c = reading_date c.args.value.now c.in_ok-date.date (sym c.in_ok-date.ensures)
