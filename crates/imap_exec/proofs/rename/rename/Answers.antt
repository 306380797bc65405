use Rattle.std.proofs.Common.{ℕ, List, codes, sym, subst, ◌∙◌}
use Rattle.row_store.specs.Holding.{in_row}
use Rattle.imap_writer.specs.declared.refusals.Refusal.TheVariants.{State as WrongState}
use Rattle.session_view.specs.Parts.{state_of}
use Rattle.mail_world.specs.Worlds.{World}
use Rattle.mail_world.specs.Changes.{Rename}
use Rattle.mail_stands.specs.Stands.{Stands}
use Rattle.mailbox_core.specs.Calls.{Makes}
use Rattle.imap_steps.specs.Stepping.{Shared, refused_with}
use Rattle.imap_steps.specs.Renaming.{rename}
use Rattle.imap_steps.specs.Executing.{of_user}
use Rattle.imap_exec.proofs.Guarding.{when_user, unless_user}
use Rattle.imap_exec.proofs.Saying.{executed_as, said_always}
use Rattle.imap_exec.proofs.Making.{executes_change}
use Rattle.imap_exec.proofs.rename.rename.Goals as goal

pub returns-in-Some : goal.returns-in-Some
unfolding rename
returns-in-Some g c =
    let store = c.args.store.now in
    let parts = c.args.sessions.now in
    let tag = c.args.tag.now in
    let from = c.args.from.now in
    let to = c.args.to.now in
    let state = state_of c.args.number parts in
    let user = c.in-Some.user in
    executed_as g.D.Disk.told c.tell_made.result store c.rename-made.new.store parts parts c.args.answer.now.items c.tell_made.new.answer.items
    (λ shared. rename shared user tag from to) (λ shared. of_user shared tag (state_of c.args.number shared.parts) (λ user. rename shared user tag from to))
    (λ (world : World). let shared : Shared = record { world = world; parts = parts } in when_user shared tag state user (λ user. rename shared user tag from to) (sym c.user_of.ensures ∙ c.in-Some.is))
    (executes_change g.D.Disk.told c.rename-made.result c.tell_made.result store c.rename-made.new.store parts c.args.answer.now.items c.tell_made.new.answer.items tag (codes "RENAME") c.tell_made.ensures
    c.rename-made.ensures.behaves c.requires.ready (λ world. Rename user from to) (λ world. tt)
    (subst (λ (n : List ℕ). (world : World) → Stands in_row store.tables world → Makes g.D.Disk.told c.rename-made.result store c.rename-made.new.store world (Rename user from n) tt) c.as_slice-in-Some.ensures
    (subst (λ (n : List ℕ). (world : World) → Stands in_row store.tables world → Makes g.D.Disk.told c.rename-made.result store c.rename-made.new.store world (Rename user n c.as_slice-in-Some.result.now) tt) c.as_slice.ensures c.rename-made.ensures.makes)))

pub returns-in-None : goal.returns-in-None
returns-in-None g c =
    let store = c.args.store.now in
    let parts = c.args.sessions.now in
    let tag = c.args.tag.now in
    let from = c.args.from.now in
    let to = c.args.to.now in
    let state = state_of c.args.number parts in
    executed_as g.D.Disk.told c.refuse.result store store parts parts c.args.answer.now.items c.refuse.new.answer.items
    (λ shared. refused_with shared tag WrongState) (λ shared. of_user shared tag (state_of c.args.number shared.parts) (λ user. rename shared user tag from to))
    (λ (world : World). let shared : Shared = record { world = world; parts = parts } in unless_user shared tag state (λ user. rename shared user tag from to) (sym c.user_of.ensures ∙ c.in-None.is))
    (said_always g.D.Disk.told c.refuse.result store parts c.args.answer.now.items c.refuse.new.answer.items (λ shared. refused_with shared tag WrongState) c.requires.ready c.refuse.ensures)
