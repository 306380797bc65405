use Rattle.std.proofs.Common.{ap, ◌∙◌}
use Rattle.imap_writer.specs.declared.refusals.Refusal.TheVariants.{Syntax}
use Rattle.imap_grammar.specs.Commands.{meaning}
use Rattle.mail_world.specs.Worlds.{World}
use Rattle.imap_steps.specs.Stepping.{Shared}
use Rattle.imap_steps.specs.Executing.{executed}
use Rattle.imap_exec.specs.Answers.{refused_bad}
use Rattle.imap_exec.proofs.Guarding.{short_bad, told_bad}
use Rattle.imap_exec.proofs.Saying.{executed_as, said_always, starves}
use Rattle.imap_exec.proofs.stepping.execute_unit.Goals as goal

pub returns-in-Bad : goal.returns-in-Bad
returns-in-Bad g c =
    let store = c.args.store.now in
    let parts = c.args.sessions.now in
    let bad = c.in-Bad.bad in
    executed_as g.D.Disk.told c.refuse_bad.result store store parts parts c.args.answer.now.items c.refuse_bad.new.answer.items
    (λ shared. refused_bad shared bad Syntax) (λ shared. executed shared c.args.number (meaning c.args.unit.now) c.args.now)
    (λ (world : World). let shared : Shared = record { world = world; parts = parts } in ap (λ m. executed shared c.args.number m c.args.now) (told_bad (meaning c.args.unit.now) c.in-Err.fault bad c.in-Bad.is c.in-Err.ensures) ∙ short_bad shared c.args.number c.args.now bad)
    (said_always g.D.Disk.told c.refuse_bad.result store parts c.args.answer.now.items c.refuse_bad.new.answer.items (λ shared. refused_bad shared bad Syntax) c.requires.ready c.refuse_bad.ensures)

pub returns-in-NoMemory : goal.returns-in-NoMemory
returns-in-NoMemory g c =
    starves g.D.Disk.told c.args.store.now c.args.sessions.now c.args.sessions.now c.args.answer.now.items c.args.answer.now.items (λ shared. executed shared c.args.number (meaning c.args.unit.now) c.args.now)
