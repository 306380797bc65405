use Rattle.std.proofs.Common.{ap, inl, inr, refl}
use Rattle.std.specs.Prelude.{Err}
use Rattle.mail_server.specs.declared.status.Status.TheVariants.{NoMemory, ReadFault}
use Rattle.mail_server.specs.Outside.{outside, tells_of}
use Rattle.mail_server.proofs.Answering.{answered, unread}
use Rattle.mail_server.proofs.program.run_task.Goals as goal

pub returns-in-Ok : goal.returns-in-Ok
returns-in-Ok g c =
    answered (tells_of g.S.Source.left g.S.Source.faults g.K.Sink.written g.K.Sink.faults g.C.Clock.readings) g.D.Disk.told c.args.task c.limit.result c.in-Ok.text.items c.deref.result.now
    c.answer_text-answer.result.0 c.write_answer.result (outside c.args.source.now c.args.sink.now c.args.clock.now) (outside c.read_all.new.source c.write_answer.new.sink c.answer_text-answer.new.clock)
    c.args.files c.answer_text-answer.result.1 c.limit.ensures.limit c.deref.ensures.value c.in-Ok.ensures.read c.in-Ok.ensures.quiet c.answer_text-answer.ensures.answers c.write_answer.ensures
    c.answer_text-answer.ensures.leaves c.answer_text-answer.ensures.long c.answer_text-answer.ensures.quiet c.answer_text-answer.ensures.canon

pub returns-in-Err-Fault : goal.returns-in-Err-Fault
returns-in-Err-Fault g c =
    unread (tells_of g.S.Source.left g.S.Source.faults g.K.Sink.written g.K.Sink.faults g.C.Clock.readings) g.D.Disk.told c.args.task c.limit.result ReadFault
    (outside c.args.source.now c.args.sink.now c.args.clock.now) (outside c.read_all.new.source c.args.sink.now c.args.clock.now) c.args.files c.limit.ensures.limit c.in-Err-Fault.ensures.part refl refl
    (inl (refl, c.in-Err-Fault.ensures.cause (ap Err c.in-Err-Fault.field-0-is)))

pub returns-in-Err-NoMemory : goal.returns-in-Err-NoMemory
returns-in-Err-NoMemory g c =
    unread (tells_of g.S.Source.left g.S.Source.faults g.K.Sink.written g.K.Sink.faults g.C.Clock.readings) g.D.Disk.told c.args.task c.limit.result NoMemory
    (outside c.args.source.now c.args.sink.now c.args.clock.now) (outside c.read_all.new.source c.args.sink.now c.args.clock.now) c.args.files c.limit.ensures.limit c.in-Err-NoMemory.ensures.part refl refl
    (inr (refl, c.in-Err-NoMemory.ensures.no_memory (ap Err c.in-Err-NoMemory.field-0-is)))
