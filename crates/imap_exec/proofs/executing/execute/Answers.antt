use Rattle.std.proofs.Common.{ℕ, List, subst}
use Rattle.session_view.specs.Parts.{state_of}
use Rattle.imap_steps.specs.Executing.{commanded}
use Rattle.imap_exec.specs.Does.{Executes}
use Rattle.imap_exec.proofs.executing.execute.Goals as goal

pub returns : goal.returns
returns g c =
    let call = c.execute_tagged in
    subst (λ (tag : List ℕ). Executes g.D.Disk.told call.result c.args.store.now call.new.store c.args.sessions.now call.new.sessions c.args.answer.now.items call.new.answer.items
    (λ shared. commanded shared c.args.number (state_of c.args.number shared.parts) tag c.args.tagged.now.command c.args.now)) c.as_slice.ensures call.ensures
