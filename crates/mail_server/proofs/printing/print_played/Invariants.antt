use Rattle.std.proofs.Common.{◌≡◌}
use Rattle.port_model.specs.History.{sent}
use Rattle.mail_server.specs.Run.{transcript_of}
use Rattle.mail_server.proofs.printing.print_played.Given as goal

abbrev pub invariant-sessions : goal.invariant-sessions
invariant-sessions l = l.lines.items ≡ transcript_of l.before (sent l.played.ports.calls)
