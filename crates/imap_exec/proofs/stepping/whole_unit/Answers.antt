use Rattle.std.proofs.Common.{ap}
use Rattle.imap_grammar.specs.Commands.{meaning}
use Rattle.session_units.specs.declared.forms.Awaits.{Awaits}
use Rattle.session_view.specs.Parts.{state_of}
use Rattle.mail_world.specs.Worlds.{World}
use Rattle.imap_steps.specs.Stepping.{Shared, refused_untagged}
use Rattle.imap_steps.specs.Executing.{executed}
use Rattle.imap_steps.specs.Step.{plain_by_state, whole_step}
use Rattle.imap_exec.proofs.Saying.{executed_as, said_always}
use Rattle.imap_exec.proofs.stepping.whole_unit.Goals as goal

pub returns-in-PlainLine : goal.returns-in-PlainLine
returns-in-PlainLine g c =
    let parts = c.args.sessions.now in
    let unit = c.args.unit.now in
    executed_as g.D.Disk.told c.plain_line.result c.args.store.now c.args.store.now parts c.plain_line.new.sessions c.args.answer.now.items c.plain_line.new.answer.items
    (λ shared. plain_by_state shared c.args.number unit (state_of c.args.number shared.parts)) (λ shared. whole_step shared c.args.number c.args.awaits unit c.args.now)
    (λ (world : World). let shared : Shared = record { world = world; parts = parts } in ap (λ (a : Awaits). whole_step shared c.args.number a unit c.args.now) c.in-PlainLine.is)
    c.plain_line.ensures

pub returns-in-Command : goal.returns-in-Command
returns-in-Command g c =
    let parts = c.args.sessions.now in
    let unit = c.args.unit.now in
    executed_as g.D.Disk.told c.execute_unit.result c.args.store.now c.execute_unit.new.store parts c.execute_unit.new.sessions c.args.answer.now.items c.execute_unit.new.answer.items
    (λ shared. executed shared c.args.number (meaning unit) c.args.now) (λ shared. whole_step shared c.args.number c.args.awaits unit c.args.now)
    (λ (world : World). let shared : Shared = record { world = world; parts = parts } in ap (λ (a : Awaits). whole_step shared c.args.number a unit c.args.now) c.in-Command.is)
    c.execute_unit.ensures

pub returns-in-LmtpLine : goal.returns-in-LmtpLine
returns-in-LmtpLine g c =
    let parts = c.args.sessions.now in
    let unit = c.args.unit.now in
    executed_as g.D.Disk.told c.refuse.result c.args.store.now c.args.store.now parts parts c.args.answer.now.items c.refuse.new.answer.items
    (λ shared. refused_untagged shared) (λ shared. whole_step shared c.args.number c.args.awaits unit c.args.now)
    (λ (world : World). let shared : Shared = record { world = world; parts = parts } in ap (λ (a : Awaits). whole_step shared c.args.number a unit c.args.now) c.in-LmtpLine.is)
    (said_always g.D.Disk.told c.refuse.result c.args.store.now parts c.args.answer.now.items c.refuse.new.answer.items (λ shared. refused_untagged shared) c.requires.ready c.refuse.ensures)

pub returns-in-LmtpText : goal.returns-in-LmtpText
returns-in-LmtpText g c =
    let parts = c.args.sessions.now in
    let unit = c.args.unit.now in
    executed_as g.D.Disk.told c.refuse-in-LmtpText.result c.args.store.now c.args.store.now parts parts c.args.answer.now.items c.refuse-in-LmtpText.new.answer.items
    (λ shared. refused_untagged shared) (λ shared. whole_step shared c.args.number c.args.awaits unit c.args.now)
    (λ (world : World). let shared : Shared = record { world = world; parts = parts } in ap (λ (a : Awaits). whole_step shared c.args.number a unit c.args.now) c.in-LmtpText.is)
    (said_always g.D.Disk.told c.refuse-in-LmtpText.result c.args.store.now parts c.args.answer.now.items c.refuse-in-LmtpText.new.answer.items (λ shared. refused_untagged shared) c.requires.ready c.refuse-in-LmtpText.ensures)
