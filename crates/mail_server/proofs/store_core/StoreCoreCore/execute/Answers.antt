use Rattle.imap_steps.specs.Step.{step}
use Rattle.mail_server.proofs.FromSteps.{none_some, ready_is, rose_some, step_done, step_leaves, step_ready}
use Rattle.mail_server.proofs.store_core.StoreCoreCore.execute.Goals as goal

pub step-told-requires : goal.step-told-requires
step-told-requires g c = record { ready = ready_is g.D.Disk.told c.args.self.now c.requires }

pub returns-clause-done : goal.returns-clause-done
returns-clause-done g c =
    step_done g.D.Disk.told c.args.self.now _ c.args.answer.now.items _ c.step-told.result (λ shared. step shared c.args.number c.args.awaits c.args.shown c.args.unit.now c.args.moment)
    c.step-told.ensures.carries c.answer_of.result c.answer_of.ensures.done

pub returns-clause-ready : goal.returns-clause-ready
returns-clause-ready g c =
    step_ready g.D.Disk.told c.args.self.now _ c.args.answer.now.items _ c.step-told.result (λ shared. step shared c.args.number c.args.awaits c.args.shown c.args.unit.now c.args.moment)
    c.step-told.ensures.carries c.answer_of.result c.answer_of.ensures.done c.step-told.ensures.ready

pub returns-clause-crash : goal.returns-clause-crash
returns-clause-crash g c =
    step_leaves g.D.Disk.told c.args.self.now _ c.args.answer.now.items _ c.step-told.result (λ shared. step shared c.args.number c.args.awaits c.args.shown c.args.unit.now c.args.moment)
    c.step-told.ensures.carries

pub returns-clause-failed : goal.returns-clause-failed
returns-clause-failed g c e = rose_some g.D.Disk.told c.args.self.now _ (c.step-told.ensures.faults.failed (c.answer_of.ensures.failed e))

pub returns-clause-quiet : goal.returns-clause-quiet
returns-clause-quiet g c other = none_some g.D.Disk.told c.args.self.now _ (c.step-told.ensures.faults.quiet (c.answer_of.ensures.other other))
