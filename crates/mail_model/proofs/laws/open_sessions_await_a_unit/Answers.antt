use Rattle.mail_model.proofs.Units.{open_await}
use Rattle.mail_model.proofs.laws.open_sessions_await_a_unit.Goals as goal

pub returns : goal.returns
returns c = open_await c.units_go_on_and_end.ensures.begun c.units_go_on_and_end.ensures.goes_on
