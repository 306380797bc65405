use Rattle.std.proofs.Common.{ℕ, List, Option, None, codes, sym, ap, ap₂, subst, ◌∙◌}
use Rattle.std.specs.Option.{option_and_then, option_map}
use Rattle.imap_writer.specs.Tagged.{no_line}
use Rattle.imap_writer.specs.declared.refusals.Refusal.TheVariants.{Syntax}
use Rattle.session_view.specs.declared.sessions.SessionPart.{SessionPart}
use Rattle.session_view.specs.declared.sessions.State.TheVariants.{Fresh}
use Rattle.mail_world.specs.Worlds.{World, no_world}
use Rattle.mail_world.specs.Looking.{login_id}
use Rattle.imap_steps.specs.Stepping.{Shared}
use Rattle.imap_steps.specs.LoggingIn.{Credentials, authenticated, credentials_of, logged_in}
use Rattle.imap_exec.specs.Ready.{AreLive}
use Rattle.imap_exec.proofs.Living.{live_with}
use Rattle.imap_exec.proofs.Saying.{executed_as, logs_in, said, said_as, turned_as}
use Rattle.imap_exec.proofs.plain_lines.authenticate_as.Goals as goal

pub returns-in-Some : goal.returns-in-Some
returns-in-Some g c =
    let store = c.args.store.now in
    let parts = c.args.sessions.now in
    let number = c.args.number in
    let tag = c.args.tag.now in
    let name = c.in-Some.its.name in
    let password = c.in-Some.its.password in
    executed_as g.D.Disk.told c.turn_to.result store store parts c.turn_to.new.sessions c.args.answer.now.items c.turn_to.new.answer.items
    (λ shared. logged_in shared number tag (codes "AUTHENTICATE") (login_id name password shared.world.users))
    (λ shared. authenticated shared number tag (option_and_then credentials_of (option_map (λ v. v.items) c.args.message.now)))
    (λ (world : World). let shared : Shared = record { world = world; parts = parts } in ap (λ (o : Option Credentials). authenticated shared number tag o) (sym c.in-Some.ensures))
    (logs_in g.D.Disk.told c.turn_to.result store parts c.turn_to.new.sessions c.args.answer.now.items c.turn_to.new.answer.items number tag (codes "AUTHENTICATE")
    c.login-user.result (λ world. login_id name password world.users) c.requires.ready c.login-user.ensures.lives
    (λ world stands. c.login-user.ensures.world world stands ∙ ap₂ (λ (n p : List ℕ). login_id n p world.users) c.name.ensures c.password.ensures) c.turn_to.ensures)

pub returns-in-None : goal.returns-in-None
returns-in-None g c =
    let store = c.args.store.now in
    let parts = c.args.sessions.now in
    let number = c.args.number in
    let tag = c.args.tag.now in
    let found = option_and_then credentials_of (option_map (λ v. v.items) c.args.message.now) in
    let turned : (world : World) → _ = λ world. let shared : Shared = record { world = world; parts = parts } in
    turned_as c.refuse.result c.args.answer.now.items c.refuse.new.answer.items shared shared number Fresh (no_line tag Syntax) c.set_state.new.self c.set_state.ensures (c.refuse.ensures shared) in
    said g.D.Disk.told c.refuse.result store parts c.set_state.new.self c.args.answer.now.items c.refuse.new.answer.items (λ shared. authenticated shared number tag found) c.requires.ready
    (λ ok. subst (λ (ps : List SessionPart). AreLive store.tables ps) (sym c.set_state.ensures) (live_with store.tables number Fresh parts tt c.requires.ready.live))
    (turned no_world).memory
    (λ world stands. let shared : Shared = record { world = world; parts = parts } in
    said_as c.refuse.result c.set_state.new.self c.args.answer.now.items c.refuse.new.answer.items (authenticated shared number tag None) (authenticated shared number tag found)
    (ap (λ (o : Option Credentials). authenticated shared number tag o) (sym c.in-None.ensures)) (turned world))
