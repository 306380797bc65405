use Rattle.std.proofs.Common.{codes}
use Rattle.imap_grammar.specs.Commands.{meaning}
use Rattle.mail_world.specs.Worlds.{World}
use Rattle.imap_steps.specs.Stepping.{Shared, answered_last, bye, refused_untagged}
use Rattle.imap_steps.specs.Executing.{literal_refused}
use Rattle.imap_steps.specs.Step.{step, whole_step}
use Rattle.imap_exec.proofs.Guarding.{step_long, step_literal, step_text, step_whole}
use Rattle.imap_exec.proofs.Saying.{executed_as, said_always}
use Rattle.imap_exec.proofs.stepping.step.Goals as goal

pub returns-in-LineTooLong : goal.returns-in-LineTooLong
returns-in-LineTooLong g c =
    let parts = c.args.sessions.now in
    let unit = c.args.unit.now in
    executed_as g.D.Disk.told c.say_last.result c.args.store.now c.args.store.now parts parts c.args.answer.now.items c.say_last.new.answer.items
    (λ shared. answered_last shared (bye (codes "line too long"))) (λ shared. step shared c.args.number c.args.awaits c.args.shown unit c.args.now)
    (λ (world : World). let shared : Shared = record { world = world; parts = parts } in step_long shared c.args.number c.args.now unit c.args.shown c.args.awaits c.in-LineTooLong.is)
    (said_always g.D.Disk.told c.say_last.result c.args.store.now parts c.args.answer.now.items c.say_last.new.answer.items (λ shared. answered_last shared (bye (codes "line too long"))) c.requires.ready c.say_last.ensures)

pub returns-in-LiteralTooLong : goal.returns-in-LiteralTooLong
returns-in-LiteralTooLong g c =
    let parts = c.args.sessions.now in
    let unit = c.args.unit.now in
    executed_as g.D.Disk.told c.literal_refused.result c.args.store.now c.args.store.now parts parts c.args.answer.now.items c.literal_refused.new.answer.items
    (λ shared. literal_refused shared (meaning unit)) (λ shared. step shared c.args.number c.args.awaits c.args.shown unit c.args.now)
    (λ (world : World). let shared : Shared = record { world = world; parts = parts } in step_literal shared c.args.number c.args.now unit c.args.shown c.args.awaits c.in-LiteralTooLong.is)
    (said_always g.D.Disk.told c.literal_refused.result c.args.store.now parts c.args.answer.now.items c.literal_refused.new.answer.items (λ shared. literal_refused shared (meaning unit)) c.requires.ready c.literal_refused.ensures)

pub returns-in-TextTooLong : goal.returns-in-TextTooLong
returns-in-TextTooLong g c =
    let parts = c.args.sessions.now in
    let unit = c.args.unit.now in
    executed_as g.D.Disk.told c.refuse.result c.args.store.now c.args.store.now parts parts c.args.answer.now.items c.refuse.new.answer.items
    (λ shared. refused_untagged shared) (λ shared. step shared c.args.number c.args.awaits c.args.shown unit c.args.now)
    (λ (world : World). let shared : Shared = record { world = world; parts = parts } in step_text shared c.args.number c.args.now unit c.args.shown c.args.awaits c.in-TextTooLong.is)
    (said_always g.D.Disk.told c.refuse.result c.args.store.now parts c.args.answer.now.items c.refuse.new.answer.items (λ shared. refused_untagged shared) c.requires.ready c.refuse.ensures)

pub returns-in-Unit : goal.returns-in-Unit
returns-in-Unit g c =
    let parts = c.args.sessions.now in
    let unit = c.args.unit.now in
    executed_as g.D.Disk.told c.whole_unit.result c.args.store.now c.whole_unit.new.store parts c.whole_unit.new.sessions c.args.answer.now.items c.whole_unit.new.answer.items
    (λ shared. whole_step shared c.args.number c.args.awaits unit c.args.now) (λ shared. step shared c.args.number c.args.awaits c.args.shown unit c.args.now)
    (λ (world : World). let shared : Shared = record { world = world; parts = parts } in step_whole shared c.args.number c.args.now unit c.args.shown c.args.awaits c.in-Unit.is)
    c.whole_unit.ensures
