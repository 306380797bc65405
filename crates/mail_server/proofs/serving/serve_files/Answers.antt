use Rattle.mail_server.proofs.FromStore.{files_served, files_unserved}
use Rattle.mail_server.proofs.serving.serve_files.Goals as goal

pub returns-in-Ok : goal.returns-in-Ok
returns-in-Ok g c =
    files_served g.D.Disk.told c.args.events.items c.serve_store.result.0 c.args.files c.in-Ok.store c.serve_store.result.1 c.sure_files_leave_the_same.ensures c.loaded_tables_stand.ensures
    c.in-Ok.ensures.sure c.in-Ok.ensures.faults c.in-Ok.ensures.loaded c.serve_store.ensures

pub returns-in-Err : goal.returns-in-Err
returns-in-Err g c =
    files_unserved g.D.Disk.told c.args.events.items c.end_unloaded.result c.args.files c.in-Err.unloaded.files c.in-Err.unloaded.fault c.sure_files_leave_the_same.ensures
    c.in-Err.ensures.sure c.in-Err.ensures.faults c.in-Err.ensures.not_a_store c.end_unloaded.ensures.not_a_store c.end_unloaded.ensures.failed c.end_unloaded.ensures.no_memory
