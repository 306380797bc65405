use Rattle.std.proofs.Common.{sym, ◌∙◌}
use Rattle.lmtp_core.specs.Reading.{read_at}
use Rattle.lmtp_core.proofs.ReadLemmas.{takes_end}
use Rattle.lmtp_core.proofs.reading.take_all.Goals as goal

pub returns-else-not-is_end-clause-count : goal.returns-else-not-is_end-clause-count
returns-else-not-is_end-clause-count c =
    (takes_end (read_at c.args.place c.args.kept.now) (read_at c.steps.place c.steps.kept) c.args.piece.now c.steps.count c.steps.invariant.takes (sym c.is_end.ensures ∙ c.if-not-is_end.false)).0

pub returns-else-not-is_end-clause-read : goal.returns-else-not-is_end-clause-read
returns-else-not-is_end-clause-read c =
    (takes_end (read_at c.args.place c.args.kept.now) (read_at c.steps.place c.steps.kept) c.args.piece.now c.steps.count c.steps.invariant.takes (sym c.is_end.ensures ∙ c.if-not-is_end.false)).1
