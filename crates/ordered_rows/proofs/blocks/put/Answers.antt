use Rattle.std.proofs.Common.{◌≡◌, ◌++◌, ◌∷◌, [], length, None, sym, subst, ap, ◌∙◌}
use Rattle.ordered_rows.specs.Blocks.{flat, IsEnd}
use Rattle.ordered_rows.specs.Listed.{IsInOrder, with_row, rows_from, is_below}
use Rattle.ordered_rows.specs.RowKey.{row_key}
use Rattle.ordered_rows.proofs.Keys.{order-with_row, length-with_row}
use Rattle.ordered_rows.proofs.Edits.{either}
use Rattle.ordered_rows.proofs.blocks.put.Goals as goal

pub returns-in_ok-put_in-in-Some-clause-table : goal.returns-in_ok-put_in-in-Some-clause-table
returns-in_ok-put_in-in-Some-clause-table g c = record {
  order = subst (IsInOrder g.R.Keyed.key_of) (sym (c.halve_full.ensures.rows ∙ c.in_ok-put_in-in-Some.ensures.ok)) (order-with_row g.R.Keyed.key_of c.args.row (flat c.args.blocks.now.items) c.requires.table.order c.requires.new);
  filled = c.halve_full.ensures.filled;
}

pub returns-in-None-clause-table : goal.returns-in-None-clause-table
returns-in-None-clause-table g c =
    let key = g.R.Keyed.key_of in
    let row = c.args.row in
    let rows = flat c.args.blocks.now.items in
    let at_end : IsEnd (is_below key (row_key c.key.result)) c.args.blocks.now.items None = subst (λ b. IsEnd (is_below key (row_key c.key.result)) b None) c.deref.ensures.value c.in-None.ensures in
    let ends : IsEnd (is_below key (key row)) c.args.blocks.now.items None = subst (λ k. IsEnd (is_below key k) c.args.blocks.now.items None) c.key.ensures at_end in
    let placed : with_row key row rows ≡ rows ++ row ∷ [] = ap (λ l. l ++ row ∷ rows_from key (key row) rows) (sym ends.0) ∙ ap (λ l. rows ++ row ∷ l) (sym ends.1) in
    record {
      order = either c.put_last.result _ _ (IsInOrder key (flat c.put_last.new.blocks.items)) c.put_last.ensures.ok c.put_last.ensures.err
          (λ e. subst (IsInOrder key) (placed ∙ sym e) (order-with_row key row rows c.requires.table.order c.requires.new))
          (λ e. subst (IsInOrder key) (sym e) c.requires.table.order);
      filled = c.put_last.ensures.filled;
    }

pub returns-in_ok-put_in-in-Some-clause-count : goal.returns-in_ok-put_in-in-Some-clause-count
returns-in_ok-put_in-in-Some-clause-count g c =
    ap length (c.halve_full.ensures.rows ∙ c.in_ok-put_in-in-Some.ensures.ok) ∙ length-with_row g.R.Keyed.key_of c.args.row (flat c.args.blocks.now.items)
