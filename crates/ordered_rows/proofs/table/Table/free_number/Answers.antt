use Rattle.std.proofs.Common.{◌≡◌, ◌<◌, sym, ap, ◌∙◌, subst, arith}
use Rattle.ordered_rows.specs.RowKey.{RowKey}
use Rattle.ordered_rows.proofs.FreeNumbers.{IsWalk, walk_start, walk_hit, walk_pass, walk_stop}
use Rattle.ordered_rows.specs.Listed.{rows_from}
use Rattle.ordered_rows.proofs.table.Table.free_number.Goals as goal

pub walk-init : goal.walk-init
walk-init g c =
    let key = g.R.Keyed.key_of in
    let rows = c.args.self.now in
    let from = c.rows_from-rows.ensures.rows ∙ ap (λ (k : RowKey). rows_from key k rows) c.of_number.ensures in
    subst (λ l. IsWalk key c.args.start rows l c.args.start) (sym from) (walk_start key c.args.start rows c.rows_from-rows.ensures.order)

pub returns-then-number-free : goal.returns-then-number-free
returns-then-number-free g c =
    let key = g.R.Keyed.key_of in
    let rows = c.args.self.now in
    let row = c.in-Some.row.now in
    let number : c.key-number.result.number ≡ (key row).number = ap (λ (k : RowKey). k.number) c.key-number.ensures in
    let above : c.walk.free < (key row).number = omega (arith, number, c.if-number-free.true) in
    walk_stop key c.args.start rows row c.next.new.self c.walk.free (subst (λ l. IsWalk key c.args.start rows l c.walk.free) c.in-Some.ensures.steps c.walk.invariant) above

pub walk-preserved-then-number-free-2 : goal.walk-preserved-then-number-free-2
walk-preserved-then-number-free-2 g c =
    let key = g.R.Keyed.key_of in
    let rows = c.args.self.now in
    let row = c.in-Some.row.now in
    let number : c.key-number.result.number ≡ (key row).number = ap (λ (k : RowKey). k.number) c.key-number.ensures in
    let same : (key row).number ≡ c.walk.free = omega (arith, number, c.if-number-free-2.true) in
    walk_hit key c.args.start rows row c.next.new.self c.walk.free (subst (λ l. IsWalk key c.args.start rows l c.walk.free) c.in-Some.ensures.steps c.walk.invariant) same

pub walk-preserved : goal.walk-preserved
walk-preserved g c =
    let key = g.R.Keyed.key_of in
    let rows = c.args.self.now in
    let row = c.in-Some.row.now in
    let number : c.key-number.result.number ≡ (key row).number = ap (λ (k : RowKey). k.number) c.key-number.ensures in
    let under : (key row).number < c.walk.free = omega (arith, number, c.if-number-free.false, c.if-number-free-2.false) in
    walk_pass key c.args.start rows row c.next.new.self c.walk.free (subst (λ l. IsWalk key c.args.start rows l c.walk.free) c.in-Some.ensures.steps c.walk.invariant) under
