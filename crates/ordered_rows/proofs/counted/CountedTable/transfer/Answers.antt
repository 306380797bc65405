use Rattle.std.proofs.Common.{◌+◌, ◌<◌, ◌==◌, if◌then◌else◌, sym, ap, ◌∙◌, subst}
use Rattle.ordered_rows.specs.RowKey.{RowKey}
use Rattle.ordered_rows.specs.Counts.{AreCounts, counted}
use Rattle.ordered_rows.specs.Listed.{row_at}
use Rattle.ordered_rows.proofs.Counting.{counts_kept, counts_moved, is_counted, raised_above}
use Rattle.ordered_rows.proofs.counted.CountedTable.transfer.Goals as goal

pub invariant_of-self : goal.invariant_of-self
invariant_of-self g c =
    let key = g.R.Keyed.key_of in
    let owner = g.R.Owned.owner_of in
    let rows = c.self.inside.rows in
    let at = sym (c.in-Some.ensures ∙ ap (λ (k : RowKey). row_at key k rows) c.key.ensures) in
    subst (AreCounts owner c.self.inside.counts) (sym c.replace.ensures)
    (counts_kept key owner c.self.inside.counts rows c.rows.ensures.order c.self.invariant c.args.row c.in-Some.old.now at (sym c.owner-from.ensures ∙ c.if-from-to.true ∙ c.owner-to.ensures))

pub lower-requires : goal.lower-requires
lower-requires g c =
    let key = g.R.Keyed.key_of in
    let owner = g.R.Owned.owner_of in
    let before = c.self.inside.counts in
    let rows = c.self.inside.rows in
    let from = c.owner-from.result in
    let at = sym (c.in-Some.ensures ∙ ap (λ (k : RowKey). row_at key k rows) c.key.ensures) in
    raised_above (counted from c.raise.new.counts) (counted from c.begin.new.counts) (counted from before) (if c.owner-to.result == from then 1 else 0) (c.raise.ensures from) (c.begin.ensures.same from)
    (subst (λ o. 0 < counted o before) (sym c.owner-from.ensures) (is_counted key owner before rows c.rows.ensures.order c.self.invariant (key c.args.row) c.in-Some.old.now at))

pub invariant_of-self-2 : goal.invariant_of-self-2
invariant_of-self-2 g c =
    let key = g.R.Keyed.key_of in
    let owner = g.R.Owned.owner_of in
    let before = c.self.inside.counts in
    let rows = c.self.inside.rows in
    let at = sym (c.in-Some.ensures ∙ ap (λ (k : RowKey). row_at key k rows) c.key.ensures) in
    subst (AreCounts owner c.lower.new.counts) (sym c.replace-2.ensures)
    (counts_moved key owner before rows c.rows.ensures.order c.self.invariant c.raise.new.counts c.lower.new.counts c.args.row c.in-Some.old.now at
    (λ n. c.raise.ensures n ∙ ap (λ a. a + (if c.owner-to.result == n then 1 else 0)) (c.begin.ensures.same n) ∙ ap (λ o. counted n before + (if o == n then 1 else 0)) c.owner-to.ensures)
    (λ n. ap (λ o. counted n c.lower.new.counts + (if o == n then 1 else 0)) (sym c.owner-from.ensures) ∙ c.lower.ensures n))
