use Rattle.std.proofs.Common.{arith}
use Rattle.std.proofs.lemmas.Grind.{common_steps}
use Rattle.mail_server.specs.Users.{is_password}
use Rattle.mail_server.proofs.users.is_password.Goals as goal

pub returns-then-are_bytes : goal.returns-then-are_bytes
unfolding is_password
returns-then-are_bytes c = grind (arith, common_steps)

pub returns-else-are_bytes : goal.returns-else-are_bytes
unfolding is_password
returns-else-are_bytes c = grind (arith, common_steps)
