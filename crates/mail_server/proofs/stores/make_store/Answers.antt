use Rattle.std.proofs.Common.{sym, subst}
use Rattle.disk_model.specs.declared.disk.Files.{Files}
use Rattle.mail_server.specs.Stores.{MakesStore}
use Rattle.mail_server.proofs.StoreFiles.{refused, made}
use Rattle.mail_server.proofs.stores.make_store.Goals as goal

pub returns-in-Ok : goal.returns-in-Ok
returns-in-Ok g c =
    subst (λ (files : Files g.row.D.Denot). MakesStore g.K.Sink.written g.K.Sink.faults g.D.Disk.told c.end_with-status.result c.args.sink.now c.end_with-status.new.sink c.args.files files) (sym c.into_files.ensures)
    (refused g.K.Sink.written g.K.Sink.faults g.D.Disk.told c.args.files c.in-Ok.store.files c.in-Ok.store.tables c.end_with-status.result c.args.sink.now c.end_with-status.new.sink
    c.in-Ok.ensures.sure c.in-Ok.ensures.reads (c.in-Ok.ensures.faults.quiet (λ e. e)) c.in-Ok.ensures.loaded c.end_with-status.ensures)

pub returns-in-Err : goal.returns-in-Err
returns-in-Err g c =
    made g.K.Sink.written g.K.Sink.faults g.D.Disk.told c.args.files c.format_unless.result.1 c.in-Err.unloaded c.format_unless.result.0 c.args.sink.now
    c.in-Err.ensures.sure c.in-Err.ensures.reads c.in-Err.ensures.faults c.in-Err.ensures.not_a_store
    c.format_unless.ensures.done c.format_unless.ensures.status c.format_unless.ensures.no_memory c.format_unless.ensures.store_fault c.format_unless.ensures.left c.format_unless.ensures.others c.format_unless.ensures.reads
