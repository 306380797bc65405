use Rattle.std.proofs.Common.{◌+◌, ap, ◌∙◌}
use Rattle.ordered_rows.specs.RowKey.{RowKey}
use Rattle.ordered_rows.specs.Listed.{row_at}
use Rattle.ordered_rows.specs.Counts.{count_key, count_in, counted}
use Rattle.ordered_rows.proofs.Counting.{raised}
use Rattle.ordered_rows.proofs.counts.raise.Goals as goal

pub returns : goal.returns
returns c n =
    let at = c.in-Some.ensures ∙ ap (λ (k : RowKey). row_at count_key k c.args.counts.now) c.of_number.ensures in
    ap (counted n) c.replace.ensures ∙ raised c.args.number c.args.counts.now (c.in-Some.row.now.count + 1) c.requires.there (ap (λ o. count_in o + 1) at) n
