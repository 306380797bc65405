use Rattle.std.proofs.Common.{sym}
use Rattle.date_grammar.proofs.StampLemmas.{internal_read}
use Rattle.date_grammar.proofs.stamps.read_internal.Goals as goal

pub stamp-requires : goal.stamp-requires
stamp-requires c = (internal_read c.args.text.now c.in_ok-date.date (sym c.in_ok-date.ensures)).is_date
