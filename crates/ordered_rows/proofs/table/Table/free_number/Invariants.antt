use Rattle.std.proofs.Common.{length}
use Rattle.ordered_rows.proofs.FreeNumbers.{IsWalk}
use Rattle.ordered_rows.proofs.table.Table.free_number.Given as goal

abbrev pub invariant-walk : goal.invariant-walk
invariant-walk g l = IsWalk g.R.Keyed.key_of l.start l.self l.rows l.free

abbrev pub decreases-walk : goal.decreases-walk
decreases-walk g l = length l.rows
