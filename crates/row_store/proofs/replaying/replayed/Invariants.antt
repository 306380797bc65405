use Rattle.std.proofs.Common.{◌≡◌, ◌++◌}
use Rattle.row_tables.specs.TableRows.{no_rows}
use Rattle.row_store.specs.Holding.{Replays}
use Rattle.row_store.proofs.replaying.replayed.Given as goal

-- those so far were made
abbrev pub invariant-loop-payload : goal.invariant-loop-payload
invariant-loop-payload l = Replays no_rows l.yielded l.tables × (l.fn.payloads.items ≡ l.yielded ++ l.payload-iterator.rest.items)
