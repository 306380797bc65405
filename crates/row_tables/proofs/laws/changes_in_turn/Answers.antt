use Rattle.row_tables.proofs.Turns.{in_turn}
use Rattle.row_tables.proofs.laws.changes_in_turn.Goals as goal

pub returns : goal.returns
returns c = in_turn
