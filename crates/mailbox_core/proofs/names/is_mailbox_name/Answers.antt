use Rattle.std.proofs.Common.{arith}
use Rattle.std.proofs.lemmas.Grind.{common_steps}
use Rattle.mail_world.specs.Names.{is_mailbox_name}
use Rattle.mailbox_core.proofs.names.is_mailbox_name.Goals as goal

pub returns-then-are_levels : goal.returns-then-are_levels
unfolding is_mailbox_name
returns-then-are_levels c = grind (arith, common_steps)

pub returns-else-are_levels : goal.returns-else-are_levels
unfolding is_mailbox_name
returns-else-are_levels c = grind (arith, common_steps)
