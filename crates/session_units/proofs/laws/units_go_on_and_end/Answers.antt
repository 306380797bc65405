use Rattle.session_units.proofs.Ending.{at_last, begun-none, behind_both, goes_on, stays}
use Rattle.session_units.proofs.laws.units_go_on_and_end.Goals as goal

pub returns-clause-begun : goal.returns-clause-begun
returns-clause-begun c = begun-none

pub returns-clause-stays : goal.returns-clause-stays
returns-clause-stays c =
    stays c.units_end_where_they_end.ensures.stays c.lines_end_where_they_end.ensures.stays c.texts_are_read_whole.ensures.cut c.texts_are_read_whole.ensures.counted

pub returns-clause-goes_on : goal.returns-clause-goes_on
returns-clause-goes_on c = goes_on c.texts_are_read_whole.ensures.cut c.texts_are_read_whole.ensures.counted

pub returns-clause-joined : goal.returns-clause-joined
returns-clause-joined c = behind_both c.texts_are_read_whole.ensures.cut

pub returns-clause-at_last : goal.returns-clause-at_last
returns-clause-at_last c = at_last c.units_end_where_they_end.ensures.at_last c.lines_end_where_they_end.ensures.goes_on
