use Rattle.shredder.proofs.Staying.{others_stay}
use Rattle.shredder.proofs.laws.law_other_messages_stay.Goals as goal

pub returns : goal.returns
returns c = others_stay
