use Rattle.std.proofs.Common.{not, sym, ◌∙◌}
use Rattle.session_view.specs.Parts.{state_of}
use Rattle.mail_world.specs.Worlds.{World}
use Rattle.imap_steps.specs.Selecting.{select}
use Rattle.imap_steps.specs.Executing.{of_user, select_plainly, unserved}
use Rattle.imap_exec.proofs.Choosing.{plainly, not_plainly}
use Rattle.imap_exec.proofs.Saying.{executed_as, said_always}
use Rattle.imap_exec.proofs.select.select.Goals as goal

pub returns-then-is_plain : goal.returns-then-is_plain
returns-then-is_plain g c =
    let parts = c.args.sessions.now in
    let number = c.args.number in
    let tag = c.args.tag.now in
    let name = c.args.name.now in
    executed_as g.D.Disk.told c.select_by_user.result c.args.store.now c.select_by_user.new.store parts c.select_by_user.new.sessions c.args.answer.now.items c.select_by_user.new.answer.items
    (λ shared. of_user shared tag (state_of number shared.parts) (λ user. select shared number user tag name (not c.args.examine)))
    (λ shared. select_plainly shared number tag (state_of number shared.parts) name c.args.examine c.args.condstore c.args.resync.now)
    (λ (world : World). plainly (record { world = world; parts = parts }) number tag (state_of number parts) name c.args.examine c.args.condstore c.args.resync.now (sym c.is_plain.ensures ∙ c.if-is_plain.true))
    c.select_by_user.ensures

pub returns-else-is_plain : goal.returns-else-is_plain
returns-else-is_plain g c =
    let parts = c.args.sessions.now in
    let number = c.args.number in
    let tag = c.args.tag.now in
    let name = c.args.name.now in
    executed_as g.D.Disk.told c.unserved.result c.args.store.now c.args.store.now parts parts c.args.answer.now.items c.unserved.new.answer.items
    (λ shared. unserved shared tag)
    (λ shared. select_plainly shared number tag (state_of number shared.parts) name c.args.examine c.args.condstore c.args.resync.now)
    (λ (world : World). not_plainly (record { world = world; parts = parts }) number tag (state_of number parts) name c.args.examine c.args.condstore c.args.resync.now (sym c.is_plain.ensures ∙ c.if-is_plain.false))
    (said_always g.D.Disk.told c.unserved.result c.args.store.now parts c.args.answer.now.items c.unserved.new.answer.items (λ shared. unserved shared tag) c.requires.ready c.unserved.ensures)
