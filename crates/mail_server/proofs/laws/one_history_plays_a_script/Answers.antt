use Rattle.mail_server.proofs.Alone.{plays_alone}
use Rattle.mail_server.proofs.Progress.{plays_bound, plays_out}
use Rattle.mail_server.proofs.laws.one_history_plays_a_script.Goals as goal

pub returns-clause-one : goal.returns-clause-one
returns-clause-one c = plays_alone

pub returns-clause-bound : goal.returns-clause-bound
returns-clause-bound c = plays_bound

pub returns-clause-ends : goal.returns-clause-ends
returns-clause-ends c = plays_out
