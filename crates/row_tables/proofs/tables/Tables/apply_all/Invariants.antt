use Rattle.std.proofs.Common.{◌≡◌, ◌++◌}
use Rattle.row_tables.specs.Fits.{CanRun, Runs}
use Rattle.row_tables.proofs.tables.Tables.apply_all.Given as goal

-- those so far were made, and the others can be
abbrev pub invariant-loop-change : goal.invariant-loop-change
invariant-loop-change l = Runs l.fn.self l.yielded l.self × (l.fn.changes.items ≡ l.yielded ++ l.change-iterator.rest.items) × CanRun l.self l.change-iterator.rest.items
