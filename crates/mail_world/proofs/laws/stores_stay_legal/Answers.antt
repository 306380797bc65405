use Rattle.mail_world.proofs.Legality.{no_world-legal, all-stay}
use Rattle.mail_world.proofs.laws.stores_stay_legal.Goals as goal

pub returns-clause-made : goal.returns-clause-made
returns-clause-made c = no_world-legal

pub returns-clause-changed : goal.returns-clause-changed
returns-clause-changed c = all-stay c.insertion.ensures
