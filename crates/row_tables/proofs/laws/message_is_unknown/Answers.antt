use Rattle.row_tables.proofs.Closed.{unknown}
use Rattle.row_tables.proofs.laws.message_is_unknown.Goals as goal

pub returns : goal.returns
returns c = unknown
