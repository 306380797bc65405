use Rattle.mail_stands.proofs.OneWorld.{one_world}
use Rattle.mail_stands.proofs.laws.one_world.Goals as goal

pub returns : goal.returns
returns c = one_world c.law_one_mail.ensures
