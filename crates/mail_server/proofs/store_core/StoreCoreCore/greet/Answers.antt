use Rattle.std.proofs.Common.{refl}
use Rattle.mail_world.specs.Worlds.{no_world}
use Rattle.imap_steps.specs.Step.{greeting}
use Rattle.mail_server.proofs.FromSteps.{greeting_carried, leaves_files, ready_is, ready_with, step_done, step_leaves, step_ready}
use Rattle.mail_server.proofs.store_core.StoreCoreCore.greet.Goals as goal

pub returns-clause-done : goal.returns-clause-done
returns-clause-done g c =
    step_done g.D.Disk.told c.args.self.now _ c.args.answer.now.items _ c.greet.result (λ shared. greeting shared c.args.number c.args.kind c.args.others)
    (greeting_carried g.D.Disk.told c.args.self.now.store c.greet.result c.args.self.now.sessions _ c.args.answer.now.items _ (λ shared. greeting shared c.args.number c.args.kind c.args.others) c.greet.ensures.says)
    c.answer_of.result c.answer_of.ensures.done

pub returns-clause-crash : goal.returns-clause-crash
returns-clause-crash g c =
    step_leaves g.D.Disk.told c.args.self.now _ c.args.answer.now.items _ c.greet.result (λ shared. greeting shared c.args.number c.args.kind c.args.others)
    (greeting_carried g.D.Disk.told c.args.self.now.store c.greet.result c.args.self.now.sessions _ c.args.answer.now.items _ (λ shared. greeting shared c.args.number c.args.kind c.args.others) c.greet.ensures.says)

pub returns-clause-ready : goal.returns-clause-ready
returns-clause-ready g c =
    step_ready g.D.Disk.told c.args.self.now _ c.args.answer.now.items _ c.greet.result (λ shared. greeting shared c.args.number c.args.kind c.args.others)
    (greeting_carried g.D.Disk.told c.args.self.now.store c.greet.result c.args.self.now.sessions _ c.args.answer.now.items _ (λ shared. greeting shared c.args.number c.args.kind c.args.others) c.greet.ensures.says)
    c.answer_of.result c.answer_of.ensures.done (λ ok. ready_is g.D.Disk.told _ (ready_with g.D.Disk.told c.args.self.now _ refl c.greet.ensures.live c.requires))

pub returns-clause-failed : goal.returns-clause-failed
returns-clause-failed g c e = absurd ((c.greet.ensures.says no_world).memory (c.answer_of.ensures.failed e))

pub returns-clause-quiet : goal.returns-clause-quiet
returns-clause-quiet g c other = (leaves_files g.D.Disk.told c.args.self.now _ refl).faults
