use Rattle.mail_model.proofs.Changes.{unit-records, greeted-records, after_step-world, leaves-nothing}
use Rattle.mail_model.proofs.change_laws.steps_record_their_changes.Goals as goal

pub returns-clause-unit : goal.returns-clause-unit
returns-clause-unit c = unit-records

pub returns-clause-greeted : goal.returns-clause-greeted
returns-clause-greeted c = greeted-records

pub returns-clause-world : goal.returns-clause-world
returns-clause-world c = after_step-world

pub returns-clause-left : goal.returns-clause-left
returns-clause-left c = leaves-nothing
