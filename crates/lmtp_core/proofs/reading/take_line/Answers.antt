use Rattle.std.proofs.Common.{sym, ◌∙◌}
use Rattle.lmtp_core.specs.Reading.{kept_of}
use Rattle.lmtp_core.proofs.ReadLemmas.{takes_line, takes_rest}
use Rattle.lmtp_core.proofs.reading.take_line.Goals as goal

pub returns-then-ends-clause-takes : goal.returns-then-ends-clause-takes
returns-then-ends-clause-takes c =
    takes_line c.args.behind_return _ (kept_of c.args.kept.now) _ c.args.rest.now c.in-Some.at c.in-Some.ensures (sym c.ends_in_return-ends.ensures ∙ c.if-ends.true) c.keep.ensures.kept

pub returns-else-ends-clause-takes : goal.returns-else-ends-clause-takes
returns-else-ends-clause-takes c =
    takes_line c.args.behind_return _ (kept_of c.args.kept.now) _ c.args.rest.now c.in-Some.at c.in-Some.ensures (sym c.ends_in_return-ends.ensures ∙ c.if-ends.false) c.keep.ensures.kept

pub returns-then-ends-2-clause-takes : goal.returns-then-ends-2-clause-takes
returns-then-ends-2-clause-takes c =
    takes_rest c.args.behind_return _ (kept_of c.args.kept.now) _ c.args.rest.now c.in-None.ensures (sym c.ends_in_return-ends-in-None.ensures ∙ c.if-ends-2.true) c.keep-in-None.ensures.kept

pub returns-else-ends-2-clause-takes : goal.returns-else-ends-2-clause-takes
returns-else-ends-2-clause-takes c =
    takes_rest c.args.behind_return _ (kept_of c.args.kept.now) _ c.args.rest.now c.in-None.ensures (sym c.ends_in_return-ends-in-None.ensures ∙ c.if-ends-2.false) c.keep-in-None.ensures.kept
