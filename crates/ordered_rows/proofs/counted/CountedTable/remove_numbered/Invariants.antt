use Rattle.std.proofs.Common.{◌≡◌, length}
use Rattle.ordered_rows.specs.Listed.{without_number}
use Rattle.ordered_rows.proofs.counted.CountedTable.remove_numbered.Given as goal

-- the rows of other numbers stay
abbrev pub invariant-removing : goal.invariant-removing
invariant-removing g l = without_number g.R.Keyed.key_of l.number l.self ≡ without_number g.R.Keyed.key_of l.number l.initial.self

abbrev pub decreases-removing : goal.decreases-removing
decreases-removing g l = length l.self
