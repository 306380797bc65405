use Rattle.std.proofs.Common.{◌+◌, ◌<◌, ◌==◌, if◌then◌else◌, sym, ap, ◌∙◌, subst}
use Rattle.ordered_rows.specs.RowKey.{row_key}
use Rattle.ordered_rows.specs.Counts.{AreCounts, counted}
use Rattle.ordered_rows.proofs.Counting.{counts_without, is_counted}
use Rattle.ordered_rows.proofs.Parted.{without-none}
use Rattle.ordered_rows.proofs.counted.CountedTable.remove.Goals as goal

pub invariant_of-self : goal.invariant_of-self
invariant_of-self g c =
    subst (AreCounts g.R.Owned.owner_of c.self.inside.counts) (sym (c.remove.ensures.rows ∙ without-none g.R.Keyed.key_of (row_key c.args.key) c.self.inside.rows (sym c.in_err-row.ensures.row))) c.self.invariant

pub lower-requires : goal.lower-requires
lower-requires g c =
    subst (λ o. 0 < counted o c.self.inside.counts) (sym c.owner.ensures)
    (is_counted g.R.Keyed.key_of g.R.Owned.owner_of c.self.inside.counts c.self.inside.rows c.rows.ensures.order c.self.invariant (row_key c.args.key) c.in_ok-row.row (sym c.in_ok-row.ensures.row))

pub invariant_of-self-2 : goal.invariant_of-self-2
invariant_of-self-2 g c =
    let owner = g.R.Owned.owner_of in
    subst (AreCounts owner c.lower.new.counts) (sym c.remove.ensures.rows)
    (counts_without g.R.Keyed.key_of owner c.self.inside.counts c.self.inside.rows c.rows.ensures.order c.self.invariant c.lower.new.counts (row_key c.args.key) c.in_ok-row.row (sym c.in_ok-row.ensures.row)
    (λ n. ap (λ o. counted n c.lower.new.counts + (if o == n then 1 else 0)) (sym c.owner.ensures) ∙ c.lower.ensures n))
