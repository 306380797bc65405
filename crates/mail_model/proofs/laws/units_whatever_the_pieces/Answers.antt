use Rattle.mail_model.proofs.Units.{pieces, moments, none, takes_unit}
use Rattle.mail_model.proofs.laws.units_whatever_the_pieces.Goals as goal

pub returns-clause-pieces : goal.returns-clause-pieces
returns-clause-pieces c = pieces

pub returns-clause-moments : goal.returns-clause-moments
returns-clause-moments c = moments c.units_go_on_and_end.ensures.stays c.units_go_on_and_end.ensures.goes_on

pub returns-clause-none : goal.returns-clause-none
returns-clause-none c = none c.units_go_on_and_end.ensures.stays c.units_go_on_and_end.ensures.goes_on c.units_go_on_and_end.ensures.joined

pub returns-clause-unit : goal.returns-clause-unit
returns-clause-unit c = λ moment taking piece cut h e.
    takes_unit c.units_go_on_and_end.ensures.stays c.units_go_on_and_end.ensures.goes_on c.units_go_on_and_end.ensures.at_last moment taking piece cut h.opened h.no_unit e
