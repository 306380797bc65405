use Rattle.std.proofs.Common.{arith}
use Rattle.std.proofs.lemmas.Grind.{common_steps}
use Rattle.mail_world.specs.Names.{is_user_name}
use Rattle.mailbox_core.proofs.names.is_user_name.Goals as goal

pub returns-then-are_bytes : goal.returns-then-are_bytes
unfolding is_user_name
returns-then-are_bytes c = grind (arith, common_steps)

pub returns-else-are_bytes : goal.returns-else-are_bytes
unfolding is_user_name
returns-else-are_bytes c = grind (arith, common_steps)
