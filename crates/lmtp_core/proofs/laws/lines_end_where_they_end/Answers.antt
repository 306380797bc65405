use Rattle.lmtp_core.proofs.LineLemmas.{line_goes_on, line_parts, line_stays}
use Rattle.lmtp_core.proofs.laws.lines_end_where_they_end.Goals as goal

pub returns-clause-parts : goal.returns-clause-parts
returns-clause-parts c = λ bytes cut some. line_parts bytes cut some

pub returns-clause-stays : goal.returns-clause-stays
returns-clause-stays c = λ bytes later cut some. line_stays bytes later cut some

pub returns-clause-goes_on : goal.returns-clause-goes_on
returns-clause-goes_on c = λ bytes later none. line_goes_on bytes later none
