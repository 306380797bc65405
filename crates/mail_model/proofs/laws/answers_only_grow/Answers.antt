use Rattle.mail_model.proofs.Growing.{machine-grows}
use Rattle.mail_model.proofs.laws.answers_only_grow.Goals as goal

pub returns : goal.returns
returns c = machine-grows
