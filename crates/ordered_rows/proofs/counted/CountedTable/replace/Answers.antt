use Rattle.std.proofs.Common.{◌≡◌, MatchOption, sym, subst}
use Rattle.std.specs.Bool.{⊤}
use Rattle.ordered_rows.specs.Counts.{AreCounts}
use Rattle.ordered_rows.specs.Listed.{row_at}
use Rattle.ordered_rows.proofs.Counting.{counts_stay}
use Rattle.ordered_rows.proofs.counted.CountedTable.replace.Goals as goal

pub invariant_of-self : goal.invariant_of-self
invariant_of-self g c =
    let key = g.R.Keyed.key_of in
    let owner = g.R.Owned.owner_of in
    subst (AreCounts owner c.self.inside.counts) (sym c.replace.ensures)
    (counts_stay key owner c.self.inside.counts c.self.inside.rows c.rows.ensures.order c.self.invariant c.args.row
    (subst (λ l. MatchOption (row_at key (key c.args.row) l) ⊤ (λ old. owner old ≡ owner c.args.row)) (sym c.self.view_is) c.requires))
