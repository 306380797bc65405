use Rattle.mail_model.proofs.Changes.{machine-records}
use Rattle.mail_model.proofs.change_laws.changes_stand_by_their_answers.Goals as goal

pub returns-clause-within : goal.returns-clause-within
returns-clause-within c = λ world events. (machine-records world events).within

pub returns-clause-answers : goal.returns-clause-answers
returns-clause-answers c = λ world events. (machine-records world events).answers

pub returns-clause-world : goal.returns-clause-world
returns-clause-world c = λ world events. (machine-records world events).changed
