use Rattle.std.proofs.Common.{List, sym, ap, subst}
use Rattle.session_view.specs.declared.sessions.SessionPart.{SessionPart}
use Rattle.imap_steps.specs.Stepping.{Shared, left_by}
use Rattle.imap_exec.specs.Ready.{AreLive}
use Rattle.imap_exec.proofs.Living.{live_left}
use Rattle.imap_exec.proofs.greeting.leave.Goals as goal

pub returns-clause-left : goal.returns-clause-left
unfolding left_by
returns-clause-left c world =
    let with_parts : List SessionPart → Shared = λ parts. record { world = world; parts = parts } in
    ap with_parts c.remove.ensures

pub returns-clause-live : goal.returns-clause-live
returns-clause-live c t live = subst (λ (parts : List SessionPart). AreLive t parts) (sym c.remove.ensures) (live_left t c.args.number c.args.sessions.now live)
