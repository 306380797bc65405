use Rattle.std.proofs.Common.{sym, subst}
use Rattle.disk_model.specs.declared.disk.Files.{Files}
use Rattle.mail_server.specs.FromLinks.{ServesLinksFrom}
use Rattle.mail_server.specs.declared.status.Status.{Status}
use Rattle.mail_server.proofs.FromStore.{is_ready}
use Rattle.mail_server.proofs.FromLinks.{served_by}
use Rattle.mail_server.proofs.serving_links.serve_links_by.Goals as goal

pub serve_links-served-requires-clause-ready : goal.serve_links-served-requires-clause-ready
serve_links-served-requires-clause-ready g c = is_ready g.D.Disk.told c.args.core c.requires.none c.requires.usable c.requires.none_placed

pub returns : goal.returns
returns g c =
    subst (λ (files : Files g.row.D.Denot). ServesLinksFrom g.P.Ports.history g.P.Ports.listen_faults g.D.Disk.told c.args.rounds c.end_of_rounds.result c.args.ports.now c.serve_links-served.new.ports c.args.core.store files) (sym c.into_files.ensures)
    (subst (λ (status : Status). ServesLinksFrom g.P.Ports.history g.P.Ports.listen_faults g.D.Disk.told c.args.rounds status c.args.ports.now c.serve_links-served.new.ports c.args.core.store c.serve_links-served.result.1.store.files) (sym c.end_of_rounds.ensures)
    (served_by g.P.Ports.history g.P.Ports.listen_faults g.D.Disk.told c.args.rounds c.serve_links-served.result.0 c.args.ports.now c.serve_links-served.new.ports c.args.core c.serve_links-served.result.1 c.requires.none c.requires.settled
    c.serve_links-served.ensures.all c.serve_links-served.ensures.fewer c.serve_links-served.ensures.listen c.serve_links-served.ensures.quiet c.serve_links-served.ensures.failed c.serve_links-served.ensures.stored))
