use Rattle.std.proofs.Common.{sym, subst}
use Rattle.std.specs.Prelude.{◌≡◌, ◌⊎◌}
use Rattle.disk_model.specs.declared.disk.Files.{Files}
use Rattle.row_tables.specs.TableRows.{TableRows}
use Rattle.admin_texts.specs.Listing.{listing_of}
use Rattle.mail_server.specs.declared.status.Status.TheVariants.{Done, NoMemory}
use Rattle.mail_server.specs.Outside.{EndsWriting}
use Rattle.mail_server.specs.Stores.{ListsTables}
use Rattle.mail_server.proofs.StoreFiles.{listed, unlisted}
use Rattle.mail_server.proofs.stores.list_tables.Goals as goal

pub returns-in-Ok : goal.returns-in-Ok
returns-in-Ok g c =
    let before = c.args.sink.now in
    let after = c.write_listing-status.new.sink in
    let status = c.write_listing-status.result in
    subst (λ (files : Files g.row.D.Denot). ListsTables g.K.Sink.written g.K.Sink.faults g.D.Disk.told status before after c.args.files files) (sym c.into_files.ensures)
    (listed g.K.Sink.written g.K.Sink.faults g.D.Disk.told c.args.files c.in-Ok.store.files c.in-Ok.store.tables status before after
    c.in-Ok.ensures.sure c.in-Ok.ensures.reads (c.in-Ok.ensures.faults.quiet (λ e. e)) c.in-Ok.ensures.loaded
    (subst (λ (t : TableRows). ((status ≡ NoMemory) × (after ≡ before)) ⊎ EndsWriting g.K.Sink.written g.K.Sink.faults Done (listing_of t) status before after) c.tables.ensures c.write_listing-status.ensures))

pub returns-in-Err : goal.returns-in-Err
returns-in-Err g c =
    unlisted g.K.Sink.written g.K.Sink.faults g.D.Disk.told c.args.files c.in-Err.unloaded.files c.in-Err.unloaded.fault c.refusal.result c.args.sink.now
    c.in-Err.ensures.sure c.in-Err.ensures.reads c.in-Err.ensures.faults c.in-Err.ensures.not_a_store c.refusal.ensures.not_a_store c.refusal.ensures.failed c.refusal.ensures.no_memory
