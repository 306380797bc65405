use Rattle.std.proofs.Common.{sym, subst}
use Rattle.disk_model.specs.declared.disk.Files.{Files}
use Rattle.mail_server.specs.Users.{AddsUser}
use Rattle.mail_server.proofs.UserFiles.{user_added_to_files, user_not_added}
use Rattle.mail_server.proofs.users.add_user_to_files.Goals as goal

pub returns-in-Ok : goal.returns-in-Ok
returns-in-Ok g c =
    subst (λ (files : Files g.row.D.Denot). AddsUser g.K.Sink.written g.K.Sink.faults g.D.Disk.told c.add_user_to-status.result c.args.name.now c.args.password.now c.args.sink.now c.add_user_to-status.new.sink c.args.files files)
    (sym c.into_files.ensures)
    (user_added_to_files g.K.Sink.written g.K.Sink.faults g.D.Disk.told c.add_user_to-status.result c.args.name.now c.args.password.now c.args.sink.now c.add_user_to-status.new.sink c.args.files c.in-Ok.store c.add_user_to-status.new.store
    c.sure_files_leave_the_same.ensures c.loaded_tables_stand.ensures c.in-Ok.ensures.sure c.in-Ok.ensures.faults c.in-Ok.ensures.loaded c.add_user_to-status.ensures)

pub returns-in-Err : goal.returns-in-Err
returns-in-Err g c =
    user_not_added g.K.Sink.written g.K.Sink.faults g.D.Disk.told c.args.files c.in-Err.unloaded.files c.in-Err.unloaded.fault c.refusal.result c.args.name.now c.args.password.now c.args.sink.now
    c.sure_files_leave_the_same.ensures c.in-Err.ensures.sure c.in-Err.ensures.faults c.in-Err.ensures.not_a_store c.refusal.ensures.not_a_store c.refusal.ensures.failed c.refusal.ensures.no_memory
