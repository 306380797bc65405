use Rattle.std.proofs.Common.{◌≡◌, ap, sym, ◌∙◌, subst}
use Rattle.disk_model.specs.declared.disk.Files.{Files}
use Rattle.row_store.specs.Holding.{in_row, stored_by}
use Rattle.row_store.specs.Crashes.{IsSettled}
use Rattle.row_store.specs.Kept.{Store}
use Rattle.mail_server.specs.declared.status.Status.TheVariants.{NoMemory}
use Rattle.mail_server.specs.FromLinks.{ServesLinksFrom}
use Rattle.mail_server.proofs.FromLinks.{store_unlinked}
use Rattle.mail_server.proofs.serving_links.serve_links_from.Goals as goal

pub serve_links_by-requires-clause-settled : goal.serve_links_by-requires-clause-settled
serve_links_by-requires-clause-settled g c =
    subst (λ (store : Store g.row.D.Denot). IsSettled g.D.Disk.told store.files (stored_by in_row store.tables)) (sym c.in-Ok.ensures.store) c.requires.settled

pub returns-in-Ok : goal.returns-in-Ok
returns-in-Ok g c =
    subst (λ (store : Store g.row.D.Denot). ServesLinksFrom g.P.Ports.history g.P.Ports.listen_faults g.D.Disk.told c.args.rounds c.serve_links_by.result.0 c.args.ports.now c.serve_links_by.new.ports store c.serve_links_by.result.1) c.in-Ok.ensures.store c.serve_links_by.ensures

-- Memory was refused for the sessions.
pub returns-in-Err : goal.returns-in-Err
returns-in-Err g c =
    let files : c.into_files.result ≡ c.args.store.files = c.into_files.ensures ∙ ap (λ (store : Store g.row.D.Denot). store.files) c.in-Err.ensures.back in
    subst (λ (files : Files g.row.D.Denot). ServesLinksFrom g.P.Ports.history g.P.Ports.listen_faults g.D.Disk.told c.args.rounds NoMemory c.args.ports.now c.args.ports.now c.args.store files) (sym files)
    (store_unlinked g.P.Ports.history g.P.Ports.listen_faults g.D.Disk.told c.args.rounds c.args.ports.now c.args.store c.requires.some c.requires.settled)
