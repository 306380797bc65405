use Rattle.std.proofs.Common.{sym, subst, refl, lit<}
use Rattle.std.specs.List.Sorted.{IsStrictlySortedBy}
use Rattle.ordered_rows.specs.Blocks.{IsCounted}
use Rattle.ordered_rows.proofs.table.Table.new.Goals as goal

pub invariant_of-result : goal.invariant_of-result
unfolding IsStrictlySortedBy
invariant_of-result g c = subst (λ bs. IsCounted g.R.Keyed.key_of bs 0) (sym c.new.ensures.items) (record { table = record { order = tt; filled = tt }; count = refl; small = lit< tt })
