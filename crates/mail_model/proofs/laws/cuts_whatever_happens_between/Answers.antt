use Rattle.mail_model.proofs.Between.{between}
use Rattle.mail_model.proofs.Joining.{joined, two_of_machine}
use Rattle.mail_model.proofs.laws.cuts_whatever_happens_between.Goals as goal

pub returns-clause-pieces : goal.returns-clause-pieces
returns-clause-pieces c = two_of_machine

pub returns-clause-later : goal.returns-clause-later
returns-clause-later c = between c.units_go_on_and_end.ensures.stays c.units_go_on_and_end.ensures.goes_on

pub returns-clause-together : goal.returns-clause-together
returns-clause-together c = λ world older number earlier later piece rest others elsewhere alone none.
    joined c.units_go_on_and_end.ensures.stays c.units_go_on_and_end.ensures.goes_on world older number earlier later piece others rest elsewhere alone none
