use Rattle.std.proofs.Common.{arith}
use Rattle.std.proofs.lemmas.Grind.{common_steps}
use Rattle.port_model.proofs.OpenSessionsLemmas.{TellOpen-opens, TellOpen-piece, TellOpen-ends_or_loses}
use Rattle.port_model.proofs.open_sessions.OpenSessions.note.Goals as goal

pub returns-in_ok-push-in-Opens : goal.returns-in_ok-push-in-Opens
returns-in_ok-push-in-Opens c before tell good = grind (arith, common_steps, TellOpen-opens before c.args.self.now c.in-Opens.field-0 tell)

pub returns-in-Piece : goal.returns-in-Piece
returns-in-Piece c before tell good = rw c.in-Piece.is (TellOpen-piece before c.args.self.now c.in-Piece.number c.in-Piece.bytes c.in-Piece.moment tell)

pub returns-in-Ends : goal.returns-in-Ends
returns-in-Ends c before tell good = TellOpen-ends_or_loses before c.args.self.now c.shut.new.self c.args.event.now c.in-Ends.number c.in-Ends.is tell good c.shut.ensures
