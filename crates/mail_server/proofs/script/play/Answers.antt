use Rattle.std.proofs.Common.{sym, subst}
use Rattle.mail_server.specs.Keeping.{KeepsScript}
use Rattle.mail_server.specs.OnScript.{LeavesScript}
use Rattle.mail_server.proofs.Crashing.{leaves_alone}
use Rattle.mail_server.proofs.Handed.{keeps_fresh}
use Rattle.mail_server.proofs.script.play.Goals as goal

-- Memory was refused for the server.
pub returns-in-Err-clause-crash : goal.returns-in-Err-clause-crash
returns-in-Err-clause-crash g c first stands =
    subst (λ (core : g.row.C.Denot). LeavesScript g.C.Core.seen c.args.core core first c.args.events.items) (sym c.in-Err.ensures.back) (leaves_alone g.C.Core.seen c.args.core first c.args.events.items)

pub returns-in-Err-clause-keeps : goal.returns-in-Err-clause-keeps
returns-in-Err-clause-keeps g c first stands =
    subst (λ (core : g.row.C.Denot). KeepsScript g.C.Core.seen core first c.args.events.items) (sym c.in-Err.ensures.back) (keeps_fresh g.C.Core.seen first c.args.events.items c.args.core stands)
