use Rattle.std.proofs.Common.{◌≡◌, ◌<◌, length, None, refl, sym, subst, ap, ◌∙◌}
use Rattle.std.proofs.lemmas.List.{length-set}
use Rattle.std.specs.Vec.{with_item}
use Rattle.ordered_rows.specs.RowKey.{row_key}
use Rattle.ordered_rows.specs.Blocks.{flat, HasKey}
use Rattle.ordered_rows.specs.Listed.{IsInOrder, row_at}
use Rattle.ordered_rows.proofs.Edits.{AreFilled-set, filled_at, block_within, flat-exchanged}
use Rattle.ordered_rows.proofs.Keys.{order-with_replaced, length-with_replaced}
use Rattle.ordered_rows.proofs.Parted.{with_replaced-none}
use Rattle.ordered_rows.proofs.blocks.exchange.Goals as goal

pub returns-in-Some-clause-rows : goal.returns-in-Some-clause-rows
returns-in-Some-clause-rows g c =
    let key = g.R.Keyed.key_of in
    let row = c.args.row in
    let blocks = c.args.blocks.now.items in
    let found = subst (λ k. HasKey key k blocks c.in-Some.n c.in-Some.i) c.key.ensures (subst (λ b. HasKey key (row_key c.key.result) b c.in-Some.n c.in-Some.i) c.deref.ensures.value c.in-Some.ensures) in
    flat-exchanged key row blocks c.in-Some.n c.in-Some.i c.requires found _ c.index_mut-block.result.now c.index_mut-block.ensures.value refl

pub returns-in-Some-clause-table : goal.returns-in-Some-clause-table
returns-in-Some-clause-table g c =
    let key = g.R.Keyed.key_of in
    let row = c.args.row in
    let blocks = c.args.blocks.now.items in
    let block = c.index_mut-block.result.now in
    let found = subst (λ k. HasKey key k blocks c.in-Some.n c.in-Some.i) c.key.ensures (subst (λ b. HasKey key (row_key c.key.result) b c.in-Some.n c.in-Some.i) c.deref.ensures.value c.in-Some.ensures) in
    let rows = flat-exchanged key row blocks c.in-Some.n c.in-Some.i c.requires found (with_item block c.in-Some.i row) block c.index_mut-block.ensures.value refl in
    record {
      order = subst (IsInOrder key) (sym rows) (order-with_replaced key row (flat blocks) c.requires.order);
      filled = AreFilled-set blocks c.in-Some.n (with_item block c.in-Some.i row) c.requires.filled (subst (λ m. 0 < m) (sym (length-set block.items c.in-Some.i row)) (filled_at blocks c.in-Some.n block c.requires.filled (block_within key (key row) blocks c.in-Some.n c.in-Some.i c.requires found) c.index_mut-block.ensures.value));
    }

pub returns-in-None-clause-rows : goal.returns-in-None-clause-rows
returns-in-None-clause-rows g c =
    let key = g.R.Keyed.key_of in
    sym (with_replaced-none key c.args.row (flat c.args.blocks.now.items) (subst (λ k. row_at key k (flat c.args.blocks.now.items) ≡ None) c.key.ensures (subst (λ b. row_at key (row_key c.key.result) (flat b) ≡ None) c.deref.ensures.value c.in-None.ensures)))

pub returns-in-Some-clause-count : goal.returns-in-Some-clause-count
returns-in-Some-clause-count g c =
    let key = g.R.Keyed.key_of in
    let row = c.args.row in
    let blocks = c.args.blocks.now.items in
    let found = subst (λ k. HasKey key k blocks c.in-Some.n c.in-Some.i) c.key.ensures (subst (λ b. HasKey key (row_key c.key.result) b c.in-Some.n c.in-Some.i) c.deref.ensures.value c.in-Some.ensures) in
    let rows = flat-exchanged key row blocks c.in-Some.n c.in-Some.i c.requires found (with_item c.index_mut-block.result.now c.in-Some.i row) c.index_mut-block.result.now c.index_mut-block.ensures.value refl in
    ap length rows ∙ length-with_replaced key row (flat blocks)
