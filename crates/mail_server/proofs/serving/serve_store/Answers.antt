use Rattle.std.proofs.Common.{◌≡◌, Err, ap, sym, ◌∙◌, subst}
use Rattle.disk_model.specs.declared.disk.Files.{Files}
use Rattle.row_store.specs.Holding.{in_row, stored_by}
use Rattle.row_store.specs.Crashes.{IsSettled}
use Rattle.row_store.specs.Kept.{Store}
use Rattle.mail_server.specs.Serving.{ServesStore}
use Rattle.mail_server.proofs.FromStore.{store_unserved}
use Rattle.mail_server.proofs.serving.serve_store.Goals as goal

pub serve_core-requires-clause-settled : goal.serve_core-requires-clause-settled
serve_core-requires-clause-settled g c =
    subst (λ (store : Store g.row.D.Denot). IsSettled g.D.Disk.told store.files (stored_by in_row store.tables)) (sym c.in-Ok.ensures.store) c.requires.settled

pub returns-in-Ok : goal.returns-in-Ok
returns-in-Ok g c =
    subst (λ (store : Store g.row.D.Denot). ServesStore g.D.Disk.told c.args.events.items c.serve_core.result.0 store c.serve_core.result.1) c.in-Ok.ensures.store c.serve_core.ensures

-- Memory was refused for the sessions.
pub returns-in-Err : goal.returns-in-Err
returns-in-Err g c =
    let files : c.into_files.result ≡ c.args.store.files = c.into_files.ensures ∙ ap (λ (store : Store g.row.D.Denot). store.files) c.in-Err.ensures.back in
    subst (λ (files : Files g.row.D.Denot). ServesStore g.D.Disk.told c.args.events.items (Err _) c.args.store files) (sym files) (store_unserved g.D.Disk.told c.args.events.items _ c.args.store c.requires.settled)
