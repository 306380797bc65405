use Rattle.std.proofs.Common.{◌+◌, ◌==◌, if◌then◌else◌, sym, ap, ◌∙◌, subst}
use Rattle.ordered_rows.specs.Counts.{AreCounts, counted}
use Rattle.ordered_rows.proofs.Counting.{counts_with}
use Rattle.ordered_rows.proofs.counted.CountedTable.insert.Goals as goal

pub invariant_of-self-2 : goal.invariant_of-self-2
invariant_of-self-2 g c =
    let owner = g.R.Owned.owner_of in
    let before = c.self.inside.counts in
    subst (AreCounts owner c.raise.new.counts) (sym c.in_ok-insert.ensures.ok)
    (counts_with g.R.Keyed.key_of owner before c.self.inside.rows c.rows.ensures.order c.self.invariant c.raise.new.counts c.args.row
    (λ n. c.raise.ensures n ∙ ap (λ a. a + (if c.owner-owner.result == n then 1 else 0)) (c.begin.ensures.same n) ∙ ap (λ o. counted n before + (if o == n then 1 else 0)) c.owner-owner.ensures))
