use Rattle.std.proofs.Common.{Some, sym, ap, ◌∙◌}
use Rattle.session_view.specs.Parts.{state_of}
use Rattle.mail_world.specs.Worlds.{World}
use Rattle.imap_steps.specs.Stepping.{refused_untagged}
use Rattle.imap_steps.specs.LoggingIn.{plain_line}
use Rattle.imap_steps.specs.Step.{plain_by_state}
use Rattle.imap_exec.proofs.Guarding.{when_asked, unless_asked}
use Rattle.imap_exec.proofs.Saying.{executed_as, said_always, starves}
use Rattle.imap_exec.proofs.plain_lines.plain_line.Goals as goal

pub returns-in-Some : goal.returns-in-Some
returns-in-Some g c =
    let store = c.args.store.now in
    let parts = c.args.sessions.now in
    let number = c.args.number in
    let unit = c.args.unit.now in
    let tag = c.as_slice.result.now in
    executed_as g.D.Disk.told c.authenticate_by.result store store parts c.authenticate_by.new.sessions c.args.answer.now.items c.authenticate_by.new.answer.items
    (λ shared. plain_line shared number tag unit) (λ shared. plain_by_state shared number unit (state_of number shared.parts))
    (λ (world : World). when_asked (record { world = world; parts = parts }) number unit (state_of number parts) tag (sym c.in-Ok.ensures ∙ (c.in-Some.is ∙ ap Some (sym c.as_slice.ensures))))
    c.authenticate_by.ensures

pub returns-in-None : goal.returns-in-None
returns-in-None g c =
    let store = c.args.store.now in
    let parts = c.args.sessions.now in
    let number = c.args.number in
    let unit = c.args.unit.now in
    executed_as g.D.Disk.told c.refuse.result store store parts parts c.args.answer.now.items c.refuse.new.answer.items
    (λ shared. refused_untagged shared) (λ shared. plain_by_state shared number unit (state_of number shared.parts))
    (λ (world : World). unless_asked (record { world = world; parts = parts }) number unit (state_of number parts) (sym c.in-Ok.ensures ∙ c.in-None.is))
    (said_always g.D.Disk.told c.refuse.result store parts c.args.answer.now.items c.refuse.new.answer.items (λ shared. refused_untagged shared) c.requires.ready c.refuse.ensures)

pub returns-in-Err : goal.returns-in-Err
returns-in-Err g c =
    starves g.D.Disk.told c.args.store.now c.args.sessions.now c.args.sessions.now c.args.answer.now.items c.args.answer.now.items (λ shared. plain_by_state shared c.args.number c.args.unit.now (state_of c.args.number shared.parts))
