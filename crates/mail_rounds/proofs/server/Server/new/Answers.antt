use Rattle.std.proofs.Common.{List, [], subst, sym}
use Rattle.mail_rounds.specs.declared.link.Link.{Link}
use Rattle.mail_rounds.specs.Serves.{Serves}
use Rattle.mail_rounds.proofs.Keeping.{serves_start}
use Rattle.mail_rounds.proofs.server.Server.new.Goals as goal

pub returns-clause-serves : goal.returns-clause-serves
returns-clause-serves g c first stands =
    subst (λ (links : List Link). Serves g.C.Core.seen first [] (record { core = c.args.core; links = links; last = 0 })) (sym c.in-Ok.ensures.links) (serves_start g.C.Core.seen c.args.core first stands)
