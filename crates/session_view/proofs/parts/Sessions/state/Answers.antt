use Rattle.std.proofs.Common.{arith}
use Rattle.std.proofs.lemmas.Grind.{common_steps}
use Rattle.session_view.specs.Parts.{has_number}
use Rattle.session_view.proofs.Placing.{found_any}
use Rattle.session_view.proofs.parts.Sessions.state.Goals as goal

pub returns-in-Some-clause-found : goal.returns-in-Some-clause-found
returns-in-Some-clause-found c = grind (arith, common_steps, found_any (has_number c.args.number) c.args.self.now)

pub returns-in-None-clause-found : goal.returns-in-None-clause-found
returns-in-None-clause-found c = grind (arith, common_steps, found_any (has_number c.args.number) c.args.self.now)
