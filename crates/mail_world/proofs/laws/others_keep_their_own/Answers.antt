use Rattle.mail_world.proofs.Apart.{all-apart}
use Rattle.mail_world.proofs.laws.others_keep_their_own.Goals as goal

pub returns : goal.returns
returns c = all-apart
