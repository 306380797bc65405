use Rattle.std.proofs.Common.{◌≡◌, ◌+◌, ◌-◌, if◌then◌else◌, ◌==◌, ap, ◌∙◌, arith}
use Rattle.ordered_rows.specs.RowKey.{RowKey}
use Rattle.ordered_rows.specs.Listed.{row_at, without}
use Rattle.ordered_rows.specs.Counts.{count_key, count_in, counted}
use Rattle.ordered_rows.proofs.Counting.{dropped, has_count, lowered}
use Rattle.ordered_rows.proofs.counts.lower.Goals as goal

pub returns-then-count-eq0 : goal.returns-then-count-eq0
returns-then-count-eq0 c n =
    let at = ap count_in (c.in-Some.ensures ∙ ap (λ (k : RowKey). row_at count_key k c.args.counts.now) c.of_number.ensures) in
    let one : 0 + 1 ≡ counted c.args.number c.args.counts.now = omega (arith, at, c.requires, c.if-count-eq0.true) in
    ap (λ l. counted n l + (if c.args.number == n then 1 else 0)) (c.remove.ensures.rows ∙ ap (λ (k : RowKey). without count_key k c.args.counts.now) c.of_number-then-count-eq0.ensures)
    ∙ dropped c.args.number c.args.counts.now one n

pub returns-else-count-eq0 : goal.returns-else-count-eq0
returns-else-count-eq0 c n =
    let at = ap count_in (c.in-Some.ensures ∙ ap (λ (k : RowKey). row_at count_key k c.args.counts.now) c.of_number.ensures) in
    let less : c.in-Some.row.now.count - 1 + 1 ≡ counted c.args.number c.args.counts.now = omega (arith, at, c.requires) in
    ap (λ l. counted n l + (if c.args.number == n then 1 else 0)) c.replace.ensures
    ∙ lowered c.args.number c.args.counts.now (c.in-Some.row.now.count - 1) (has_count c.args.number c.args.counts.now c.requires) less n
