use Rattle.std.proofs.Common.{sym, ◌∙◌}
use Rattle.imap_writer.specs.declared.refusals.Refusal.TheVariants.{State as WrongState}
use Rattle.session_view.specs.Parts.{state_of}
use Rattle.mail_world.specs.Worlds.{World}
use Rattle.imap_steps.specs.Stepping.{Shared, refused_with}
use Rattle.imap_steps.specs.Appending.{append}
use Rattle.imap_steps.specs.Executing.{of_user}
use Rattle.imap_exec.proofs.Guarding.{when_user, unless_user}
use Rattle.imap_exec.proofs.Placing.{same_append}
use Rattle.imap_exec.proofs.Saying.{executed_as, said_always}
use Rattle.imap_exec.proofs.append.append.Goals as goal

pub returns-in-Some : goal.returns-in-Some
returns-in-Some g c =
    let store = c.args.store.now in
    let parts = c.args.sessions.now in
    let tag = c.args.tag.now in
    let name = c.args.name.now in
    let flags = c.args.flags.now in
    let date = c.args.stamp.now in
    let text = c.args.text.now in
    let now = c.args.now in
    let state = state_of c.args.number parts in
    let user = c.in-Some.user in
    executed_as g.D.Disk.told c.append_as.result store c.append_as.new.store parts parts c.args.answer.now.items c.append_as.new.answer.items
    (λ shared. append shared user tag c.as_slice.result.now c.as_slice-flags.result.now date c.as_slice-text.result.now now)
    (λ shared. of_user shared tag (state_of c.args.number shared.parts) (λ user. append shared user tag name flags date text now))
    (λ (world : World). let shared : Shared = record { world = world; parts = parts } in
    when_user shared tag state user (λ user. append shared user tag name flags date text now) (sym c.user_of.ensures ∙ c.in-Some.is)
    ∙ same_append shared user tag name c.as_slice.result.now flags c.as_slice-flags.result.now date text c.as_slice-text.result.now now c.as_slice.ensures c.as_slice-flags.ensures c.as_slice-text.ensures)
    (c.append_as.ensures parts c.requires.ready)

pub returns-in-None : goal.returns-in-None
returns-in-None g c =
    let store = c.args.store.now in
    let parts = c.args.sessions.now in
    let tag = c.args.tag.now in
    let name = c.args.name.now in
    let flags = c.args.flags.now in
    let date = c.args.stamp.now in
    let text = c.args.text.now in
    let now = c.args.now in
    let state = state_of c.args.number parts in
    executed_as g.D.Disk.told c.refuse.result store store parts parts c.args.answer.now.items c.refuse.new.answer.items
    (λ shared. refused_with shared tag WrongState) (λ shared. of_user shared tag (state_of c.args.number shared.parts) (λ user. append shared user tag name flags date text now))
    (λ (world : World). let shared : Shared = record { world = world; parts = parts } in unless_user shared tag state (λ user. append shared user tag name flags date text now) (sym c.user_of.ensures ∙ c.in-None.is))
    (said_always g.D.Disk.told c.refuse.result store parts c.args.answer.now.items c.refuse.new.answer.items (λ shared. refused_with shared tag WrongState) c.requires.ready c.refuse.ensures)
