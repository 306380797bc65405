use Rattle.std.proofs.Common.{◌≡◌, ℕ, List, codes, refl, ap, subst, ◌∙◌}
use Rattle.row_store.specs.Holding.{in_row}
use Rattle.session_view.specs.declared.sessions.SessionPart.{SessionPart}
use Rattle.mail_world.specs.Worlds.{World}
use Rattle.mail_world.specs.Changes.{Delete}
use Rattle.mail_stands.specs.Stands.{Stands}
use Rattle.mailbox_core.specs.Calls.{BehavesBy, Makes}
use Rattle.mailbox_core.specs.Deleting.{KeepsHeld}
use Rattle.imap_steps.specs.Stepping.{made}
use Rattle.imap_steps.specs.Managing.{delete, held}
use Rattle.imap_exec.proofs.Living.{live_held}
use Rattle.imap_exec.proofs.Making.{executes_kept}
use Rattle.imap_exec.proofs.Saying.{executed_as, starves}
use Rattle.imap_exec.proofs.delete.delete_as.Goals as goal

pub returns-in-Ok : goal.returns-in-Ok
unfolding delete
returns-in-Ok g c =
    let store = c.args.store.now in
    let parts = c.args.sessions.now in
    let tag = c.args.tag.now in
    let name = c.args.name.now in
    let user : ℕ = c.args.user in
    let call = c.delete-made in
    let held_is : c.as_slice-in-Ok.result.now ≡ held parts = c.as_slice-in-Ok.ensures.value ∙ (c.in-Ok.ensures ∙ ap (λ (ps : List SessionPart). held ps) c.as_slice.ensures) in
    executed_as g.D.Disk.told c.tell_made.result store call.new.store parts parts c.args.answer.now.items c.tell_made.new.answer.items
    (λ shared. made shared (Delete user name (held parts)) tag (codes "DELETE")) (λ shared. delete shared user tag name) (λ world. refl)
    (executes_kept g.D.Disk.told call.result c.tell_made.result store call.new.store parts c.args.answer.now.items c.tell_made.new.answer.items tag (codes "DELETE") c.tell_made.ensures
    (KeepsHeld user (held parts)) (λ after keeps live. live_held store.tables after user parts keeps live)
    (subst (λ (ids : List ℕ). BehavesBy (KeepsHeld user ids) g.D.Disk.told call.result store call.new.store) held_is call.ensures.behaves) c.requires.ready
    (λ world. Delete user name (held parts)) (λ world. tt)
    (subst (λ (ids : List ℕ). (world : World) → Stands in_row store.tables world → Makes g.D.Disk.told call.result store call.new.store world (Delete user name ids) tt) held_is call.ensures.makes))

pub returns-in-Err : goal.returns-in-Err
returns-in-Err g c =
    starves g.D.Disk.told c.args.store.now c.args.sessions.now c.args.sessions.now c.args.answer.now.items c.args.answer.now.items (λ shared. delete shared c.args.user c.args.tag.now c.args.name.now)
