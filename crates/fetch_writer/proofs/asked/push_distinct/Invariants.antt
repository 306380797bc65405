use Rattle.std.proofs.Common.{◌≡◌, ◌++◌, take, map}
use Rattle.fetch_writer.specs.Told.{item_told}
use Rattle.fetch_writer.specs.Asked.{distinct_items}
use Rattle.fetch_writer.proofs.asked.push_distinct.Given as goal

abbrev pub invariant-loop-at : goal.invariant-loop-at
invariant-loop-at l = map item_told l.told.items ≡ map item_told l.fn.told.items ++ distinct_items (take l.at l.items)
