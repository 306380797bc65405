use Rattle.std.proofs.Common.{sym, subst}
use Rattle.disk_model.specs.declared.disk.Files.{Files}
use Rattle.mail_server.specs.Serving.{ServesStore}
use Rattle.mail_server.proofs.FromStore.{is_ready, served_err, served_ok}
use Rattle.mail_server.proofs.serving.serve_core.Goals as goal

pub play-played-requires-clause-ready : goal.play-played-requires-clause-ready
play-played-requires-clause-ready g c = is_ready g.D.Disk.told c.args.core c.requires.none c.requires.usable c.requires.none_placed

pub returns-in-Ok : goal.returns-in-Ok
returns-in-Ok g c =
    subst (λ (files : Files g.row.D.Denot). ServesStore g.D.Disk.told c.args.events.items c.print_played.result c.args.core.store files) (sym c.into_files-files.ensures)
    (served_ok g.D.Disk.told c.args.events.items c.args.core c.play-played.result.1 c.in-Ok.played.ports.calls c.in-Ok.played.last c.print_played.result c.requires.none c.requires.settled
    (rw c.in-Ok.is at c.play-played.ensures.plays) c.play-played.ensures.crash c.play-played.ensures.keeps (c.play-played.ensures.stored (λ e. cc (e, c.in-Ok.is)))
    c.print_played.ensures.status c.print_played.ensures.lines)

pub returns-in-Err : goal.returns-in-Err
returns-in-Err g c =
    subst (λ (files : Files g.row.D.Denot). ServesStore g.D.Disk.told c.args.events.items c.end_unplayed.result c.args.core.store files) (sym c.into_files-files.ensures)
    (served_err g.D.Disk.told c.args.events.items c.args.core c.play-played.result.1 c.play-played.result.0 c.in-Err.fault c.end_unplayed.result c.in-Err.is c.requires.none c.requires.settled
    c.play-played.ensures.crash c.play-played.ensures.keeps c.play-played.ensures.failed c.play-played.ensures.stored c.end_unplayed.ensures.failed c.end_unplayed.ensures.no_memory)
