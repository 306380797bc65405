use Rattle.mail_world.proofs.Following.{all-follow}
use Rattle.mail_world.proofs.laws.mailboxes_follow.Goals as goal

pub returns : goal.returns
returns c = all-follow
