use Rattle.std.proofs.Common.{◌≡◌, ◌++◌}
use Rattle.row_tables.specs.Fits.{Runs}
use Rattle.row_store.proofs.replaying.run.Given as goal

-- those so far were made
abbrev pub invariant-loop-change : goal.invariant-loop-change
invariant-loop-change l = Runs l.fn.tables l.yielded l.tables × (l.fn.changes.items ≡ l.yielded ++ l.change-iterator.rest.items)
