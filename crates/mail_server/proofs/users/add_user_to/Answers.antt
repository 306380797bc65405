use Rattle.std.proofs.Common.{sym, ◌∙◌}
use Rattle.mail_server.proofs.UserFiles.{adds_done, adds_err, adds_not, called, words-name, words-password}
use Rattle.mail_server.proofs.users.add_user_to.Goals as goal

pub returns-then-not-is_user_name : goal.returns-then-not-is_user_name
returns-then-not-is_user_name g c =
    adds_not g.K.Sink.written g.K.Sink.faults g.D.Disk.told c.end_with.result _ c.args.name.now c.args.password.now c.args.sink.now c.end_with.new.sink c.args.store.now
    (words-name c.args.name.now c.args.password.now (sym c.is_user_name.ensures ∙ c.if-not-is_user_name.true)) c.end_with.ensures

pub returns-then-not-is_password : goal.returns-then-not-is_password
returns-then-not-is_password g c =
    adds_not g.K.Sink.written g.K.Sink.faults g.D.Disk.told c.end_with-then-not-is_password.result _ c.args.name.now c.args.password.now c.args.sink.now c.end_with-then-not-is_password.new.sink c.args.store.now
    (words-password c.args.name.now c.args.password.now (sym c.is_user_name.ensures ∙ c.if-not-is_user_name.false) (sym c.is_password.ensures ∙ c.if-not-is_password.true)) c.end_with-then-not-is_password.ensures

pub returns-in-Ok : goal.returns-in-Ok
returns-in-Ok g c =
    adds_done g.K.Sink.written g.K.Sink.faults g.D.Disk.told c.in-Ok.field-0 c.args.name.now c.args.password.now c.args.sink.now c.args.store.now c.add_user.new.store
    (called g.D.Disk.told _ c.args.name.now c.args.password.now c.args.store.now c.add_user.new.store (sym c.is_user_name.ensures ∙ c.if-not-is_user_name.false) (sym c.is_password.ensures ∙ c.if-not-is_password.false)
    c.in-Ok.ensures.makes c.in-Ok.ensures.behaves)

pub returns-in-Err : goal.returns-in-Err
returns-in-Err g c =
    adds_err g.K.Sink.written g.K.Sink.faults g.D.Disk.told c.end_at.result c.in-Err.fault c.args.name.now c.args.password.now c.args.sink.now c.end_at.new.sink c.args.store.now c.add_user.new.store
    (called g.D.Disk.told _ c.args.name.now c.args.password.now c.args.store.now c.add_user.new.store (sym c.is_user_name.ensures ∙ c.if-not-is_user_name.false) (sym c.is_password.ensures ∙ c.if-not-is_password.false)
    c.in-Err.ensures.makes c.in-Err.ensures.behaves)
    c.in-Err.ensures.refuses c.end_at.ensures.exists c.end_at.ensures.full c.end_at.ensures.failed c.end_at.ensures.no_memory
