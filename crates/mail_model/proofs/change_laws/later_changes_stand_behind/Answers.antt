use Rattle.mail_model.proofs.Behind.{on-top, none-sent}
use Rattle.mail_model.proofs.change_laws.later_changes_stand_behind.Goals as goal

pub returns-clause-on_top : goal.returns-clause-on_top
returns-clause-on_top c = on-top

pub returns-clause-none : goal.returns-clause-none
returns-clause-none c = none-sent
