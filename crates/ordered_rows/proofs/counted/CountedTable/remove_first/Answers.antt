use Rattle.std.proofs.Common.{◌+◌, ◌<◌, ◌==◌, if◌then◌else◌, sym, ap, ◌∙◌, subst}
use Rattle.ordered_rows.specs.Counts.{AreCounts, counted}
use Rattle.ordered_rows.proofs.Counting.{counts_without, is_counted}
use Rattle.ordered_rows.proofs.counted.CountedTable.remove_first.Goals as goal

pub lower-requires : goal.lower-requires
lower-requires g c =
    let key = g.R.Keyed.key_of in
    subst (λ o. 0 < counted o c.self.inside.counts) (sym c.owner.ensures)
    (is_counted key g.R.Owned.owner_of c.self.inside.counts c.self.inside.rows c.rows.ensures.order c.self.invariant (key c.in-Some.row) c.in-Some.row c.in-Some.ensures.row.0)

pub invariant_of-self : goal.invariant_of-self
invariant_of-self g c =
    let key = g.R.Keyed.key_of in
    let owner = g.R.Owned.owner_of in
    subst (AreCounts owner c.lower.new.counts) (sym c.in-Some.ensures.row.1)
    (counts_without key owner c.self.inside.counts c.self.inside.rows c.rows.ensures.order c.self.invariant c.lower.new.counts (key c.in-Some.row) c.in-Some.row c.in-Some.ensures.row.0
    (λ n. ap (λ o. counted n c.lower.new.counts + (if o == n then 1 else 0)) (sym c.owner.ensures) ∙ c.lower.ensures n))
