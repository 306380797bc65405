use Rattle.std.proofs.Common.{[], sym, subst}
use Rattle.mail_server.specs.LinkRounds.{MadeSome}
use Rattle.mail_server.proofs.Linking.{none_served}
use Rattle.mail_server.proofs.linked.serve_links.Goals as goal

-- Memory was refused for the server.
pub returns-in-Err-clause-fewer : goal.returns-in-Err-clause-fewer
returns-in-Err-clause-fewer g c none = (
  [],
  none,
  λ first stands. subst (λ (core : g.row.C.Denot). MadeSome g.C.Core.seen first c.args.rounds [] c.args.core core) (sym c.in-Err.ensures.back) (none_served g.C.Core.seen first c.args.rounds c.args.core c.requires.some stands),
)
