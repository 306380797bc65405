use Rattle.mail_server.proofs.FromLinks.{files_linked, files_unlinked}
use Rattle.mail_server.proofs.serving_links.serve_links_from_files.Goals as goal

pub returns-in-Ok : goal.returns-in-Ok
returns-in-Ok g c =
    files_linked g.P.Ports.history g.P.Ports.listen_faults g.D.Disk.told c.args.rounds c.serve_links_from.result.0 c.args.ports.now c.serve_links_from.new.ports c.args.files c.in-Ok.store c.serve_links_from.result.1
    c.sure_files_leave_the_same.ensures c.loaded_tables_stand.ensures c.in-Ok.ensures.sure c.in-Ok.ensures.faults c.in-Ok.ensures.loaded c.serve_links_from.ensures

pub returns-in-Err : goal.returns-in-Err
returns-in-Err g c =
    files_unlinked g.P.Ports.history g.P.Ports.listen_faults g.D.Disk.told c.args.rounds c.refusal.result c.args.ports.now c.args.files c.in-Err.unloaded.files c.in-Err.unloaded.fault c.requires.some
    c.sure_files_leave_the_same.ensures c.in-Err.ensures.sure c.in-Err.ensures.faults c.in-Err.ensures.not_a_store c.refusal.ensures.not_a_store c.refusal.ensures.failed c.refusal.ensures.no_memory
