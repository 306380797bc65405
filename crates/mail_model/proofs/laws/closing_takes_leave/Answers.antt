use Rattle.imap_steps.specs.Stepping.{stepped_to}
use Rattle.mail_model.proofs.Units.{left_has_none}
use Rattle.mail_model.proofs.laws.closing_takes_leave.Goals as goal

pub returns-clause-stepped : goal.returns-clause-stepped
returns-clause-stepped c = λ taking stepped h. rw h (left_has_none (stepped_to taking.shared stepped) taking.session.number)

pub returns-clause-greeted : goal.returns-clause-greeted
returns-clause-greeted c = λ before number greeted h. rw h (left_has_none (stepped_to before.shared greeted) number)

pub returns-clause-ended : goal.returns-clause-ended
returns-clause-ended c = λ shared session h. rw h (left_has_none shared session.number)
