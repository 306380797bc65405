use Rattle.std.proofs.Common.{ℕ, List, Option, sym, ap}
use Rattle.std.specs.Option.{option_and_then, option_map}
use Rattle.mail_world.specs.Worlds.{World}
use Rattle.imap_steps.specs.Stepping.{Shared}
use Rattle.imap_steps.specs.LoggingIn.{authenticated, credentials, credentials_of, plain_line}
use Rattle.imap_exec.proofs.Saying.{executed_as, starves}
use Rattle.imap_exec.proofs.plain_lines.authenticate_by.Goals as goal

pub returns-in-Ok : goal.returns-in-Ok
unfolding plain_line credentials
returns-in-Ok g c =
    let store = c.args.store.now in
    let parts = c.args.sessions.now in
    let number = c.args.number in
    let tag = c.args.tag.now in
    executed_as g.D.Disk.told c.authenticate_as.result store store parts c.authenticate_as.new.sessions c.args.answer.now.items c.authenticate_as.new.answer.items
    (λ shared. authenticated shared number tag (option_and_then credentials_of (option_map (λ v. v.items) c.in-Ok.message))) (λ shared. plain_line shared number tag c.args.unit.now)
    (λ (world : World). let shared : Shared = record { world = world; parts = parts } in ap (λ (o : Option (List ℕ)). authenticated shared number tag (option_and_then credentials_of o)) (sym c.in-Ok.ensures))
    c.authenticate_as.ensures

pub returns-in-Err : goal.returns-in-Err
returns-in-Err g c =
    starves g.D.Disk.told c.args.store.now c.args.sessions.now c.args.sessions.now c.args.answer.now.items c.args.answer.now.items (λ shared. plain_line shared c.args.number c.args.tag.now c.args.unit.now)
