use Rattle.std.proofs.Common.{ℕ, List, None, Option, sym, ap, ◌∙◌}
use Rattle.imap_grammar.specs.declared.flags.Flag.{Flag}
use Rattle.session_view.specs.Parts.{state_of}
use Rattle.mail_world.specs.Worlds.{World}
use Rattle.imap_steps.specs.Stepping.{Shared}
use Rattle.imap_steps.specs.Storing.{store}
use Rattle.imap_steps.specs.Executing.{of_selection, store_plainly, unserved}
use Rattle.imap_exec.proofs.Saying.{executed_as, said_always}
use Rattle.imap_exec.proofs.store.store_flags.Goals as goal

pub returns-in-Some : goal.returns-in-Some
returns-in-Some g c =
    let parts = c.args.sessions.now in
    let tag = c.args.tag.now in
    executed_as g.D.Disk.told c.unserved.result c.args.store.now c.args.store.now parts parts c.args.answer.now.items c.unserved.new.answer.items
    (λ shared. unserved shared tag) (λ shared. store_plainly shared tag (state_of c.args.number shared.parts) c.args.by_uid c.args.set.now.ranges c.args.unchanged_since c.args.how c.args.silent c.args.flags.now)
    (λ (world : World). let shared : Shared = record { world = world; parts = parts } in
    ap (λ (o : Option ℕ). store_plainly shared tag (state_of c.args.number parts) c.args.by_uid c.args.set.now.ranges o c.args.how c.args.silent c.args.flags.now) c.in-Some.is)
    (said_always g.D.Disk.told c.unserved.result c.args.store.now parts c.args.answer.now.items c.unserved.new.answer.items (λ shared. unserved shared tag) c.requires.ready c.unserved.ensures)

pub returns-in-None : goal.returns-in-None
returns-in-None g c =
    let parts = c.args.sessions.now in
    let tag = c.args.tag.now in
    executed_as g.D.Disk.told c.store_selected.result c.args.store.now c.store_selected.new.store parts parts c.args.answer.now.items c.store_selected.new.answer.items
    (λ shared. of_selection shared tag (state_of c.args.number shared.parts) (λ selection. store shared tag selection c.args.by_uid c.args.set.now.ranges c.args.how c.args.silent c.as_slice-flags.result.now))
    (λ shared. store_plainly shared tag (state_of c.args.number shared.parts) c.args.by_uid c.args.set.now.ranges c.args.unchanged_since c.args.how c.args.silent c.args.flags.now)
    (λ (world : World). let shared : Shared = record { world = world; parts = parts } in
    ap (λ (o : Option ℕ). store_plainly shared tag (state_of c.args.number parts) c.args.by_uid c.args.set.now.ranges o c.args.how c.args.silent c.args.flags.now) c.in-None.is
    ∙ ap (λ (l : List Flag). store_plainly shared tag (state_of c.args.number parts) c.args.by_uid c.args.set.now.ranges None c.args.how c.args.silent l) (sym c.as_slice-flags.ensures))
    c.store_selected.ensures
