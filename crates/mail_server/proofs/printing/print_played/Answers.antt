use Rattle.std.proofs.Common.{◌++◌, ◌∙◌, ◌+◌, List, ℕ, sym, ap}
use Rattle.port_model.specs.History.{sent}
use Rattle.port_model.specs.Transcript.{session_lines}
use Rattle.mail_server.proofs.Readings.{transcript-more}
use Rattle.mail_server.proofs.printing.print_played.Goals as goal

pub sessions-preserved : goal.sessions-preserved
sessions-preserved c =
    c.in_ok-print_session.ensures.printed ∙ ap (λ (lines : List ℕ). lines ++ session_lines (c.sessions.before + 1) c.sent.result.now) c.sessions.invariant
    ∙ ap (λ (bytes : List ℕ). Rattle.mail_server.specs.Run.transcript_of c.sessions.before (sent c.args.played.now.ports.calls) ++ session_lines (c.sessions.before + 1) bytes) (c.sent.ensures c.requires)
    ∙ sym (transcript-more c.sessions.before (sent c.args.played.now.ports.calls))
