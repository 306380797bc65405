use Rattle.mail_world.proofs.Ids.{all-keep_ids}
use Rattle.mail_world.proofs.laws.ids_are_given_once.Goals as goal

pub returns : goal.returns
returns c = all-keep_ids
