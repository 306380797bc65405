use Rattle.std.proofs.Common.{arith}
use Rattle.std.proofs.lemmas.Grind.{common_steps}
use Rattle.mail_world.specs.Names.{created_name}
use Rattle.mailbox_core.proofs.names.created_name.Goals as goal

pub returns-in-Some : goal.returns-in-Some
unfolding created_name
returns-in-Some c = grind (arith, common_steps)

pub returns-in-None : goal.returns-in-None
unfolding created_name
returns-in-None c = grind (arith, common_steps)
