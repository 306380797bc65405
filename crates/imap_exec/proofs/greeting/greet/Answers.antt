use Rattle.std.proofs.Common.{List, sym, subst}
use Rattle.session_view.specs.declared.sessions.SessionPart.{SessionPart}
use Rattle.imap_steps.specs.Stepping.{Shared}
use Rattle.imap_steps.specs.Step.{greeting}
use Rattle.imap_exec.specs.Ready.{AreLive}
use Rattle.imap_exec.specs.Answers.{Says}
use Rattle.imap_exec.proofs.Welcoming.{unchanged}
use Rattle.imap_exec.proofs.Living.{live_more}
use Rattle.imap_exec.proofs.Saying.{says_starved}
use Rattle.imap_exec.proofs.greeting.greet.Goals as goal

pub returns-in-Ok-clause-says : goal.returns-in-Ok-clause-says
returns-in-Ok-clause-says c world =
    let shared : Shared = record { world = world; parts = c.args.sessions.now } in
    subst (λ (parts : List SessionPart). Says c.welcome.result parts c.args.answer.now.items c.welcome.new.answer.items (greeting shared c.args.number c.args.kind c.args.others)) (sym c.in-Ok.ensures.ok) (c.welcome.ensures shared c.args.number)

pub returns-in-Err-clause-says : goal.returns-in-Err-clause-says
returns-in-Err-clause-says c world =
    let shared : Shared = record { world = world; parts = c.args.sessions.now } in
    says_starved c.push.new.self c.args.answer.now.items c.args.answer.now.items (greeting shared c.args.number c.args.kind c.args.others) (unchanged shared c.args.number c.args.others c.args.kind)

pub returns-in-Ok-clause-live : goal.returns-in-Ok-clause-live
returns-in-Ok-clause-live c t live = subst (λ (parts : List SessionPart). AreLive t parts) (sym c.in-Ok.ensures.ok) (live_more t c.args.number c.args.sessions.now live)
