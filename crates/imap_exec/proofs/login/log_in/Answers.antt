use Rattle.std.proofs.Common.{codes}
use Rattle.mail_world.specs.Looking.{login_id}
use Rattle.imap_steps.specs.LoggingIn.{login}
use Rattle.imap_exec.proofs.Saying.{logs_in}
use Rattle.imap_exec.proofs.login.log_in.Goals as goal

pub returns : goal.returns
unfolding login
returns g c =
    logs_in g.D.Disk.told c.turn_to.result c.args.store.now c.args.sessions.now c.turn_to.new.sessions c.args.answer.now.items c.turn_to.new.answer.items c.args.number c.args.tag.now (codes "LOGIN")
    c.login-user.result (λ world. login_id c.args.name.now c.args.password.now world.users) c.requires.ready c.login-user.ensures.lives c.login-user.ensures.world c.turn_to.ensures
