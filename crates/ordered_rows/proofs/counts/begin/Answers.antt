use Rattle.std.proofs.Common.{rules, ◌≡◌, None, ap}
use Rattle.ordered_rows.specs.RowKey.{number_key}
use Rattle.ordered_rows.specs.Listed.{row_at}
use Rattle.ordered_rows.specs.Counts.{count_key, counted}
use Rattle.ordered_rows.proofs.Counting.{begun, is_there, on_ok, either}
use Rattle.ordered_rows.proofs.counts.begin.Goals as goal

pub returns-clause-there : goal.returns-clause-there
returns-clause-there c = on_ok c.insert.result c.insert.ensures.ok (λ is. is_there c.args.number c.args.counts.now c.insert.new.self is)

pub returns-clause-same : goal.returns-clause-same
returns-clause-same c n =
    let none : row_at count_key (number_key c.args.number) c.args.counts.now ≡ None = search rules in
    either c.insert.result c.insert.ensures.ok c.insert.ensures.err (λ is. begun c.args.number c.args.counts.now none c.insert.new.self is n) (λ is. ap (counted n) is)
