use Rattle.std.proofs.Common.{◌≡◌, ◌+◌, length, None, refl, sym, subst, ap, ◌∙◌}
use Rattle.ordered_rows.specs.RowKey.{row_key}
use Rattle.ordered_rows.specs.Blocks.{flat, HasKey}
use Rattle.ordered_rows.specs.Listed.{IsInOrder, row_at}
use Rattle.ordered_rows.proofs.Edits.{AreFilled-others, row_found, flat-taken, length-taken, spot_read}
use Rattle.ordered_rows.proofs.Keys.{order-without}
use Rattle.ordered_rows.proofs.Parted.{without-none}
use Rattle.ordered_rows.proofs.blocks.take_out.Goals as goal

pub drop_empty-requires-clause-others : goal.drop_empty-requires-clause-others
drop_empty-requires-clause-others g c = AreFilled-others c.args.blocks.now.items c.in-Some.n c.remove-row.new.self c.requires.filled

pub returns-in-Some-clause-rows : goal.returns-in-Some-clause-rows
returns-in-Some-clause-rows g c =
    c.drop_empty.ensures.rows ∙ flat-taken g.R.Keyed.key_of (row_key c.args.key) c.args.blocks.now.items c.in-Some.n c.in-Some.i c.requires (subst (λ b. HasKey g.R.Keyed.key_of (row_key c.args.key) b c.in-Some.n c.in-Some.i) c.deref.ensures.value c.in-Some.ensures) c.remove-row.new.self c.index_mut-block.result.now c.index_mut-block.ensures.value c.remove-row.ensures.by_index.2

pub returns-in-Some-clause-table : goal.returns-in-Some-clause-table
returns-in-Some-clause-table g c =
    let key = g.R.Keyed.key_of in
    let k = row_key c.args.key in
    let rows = c.drop_empty.ensures.rows ∙ flat-taken key k c.args.blocks.now.items c.in-Some.n c.in-Some.i c.requires (subst (λ b. HasKey g.R.Keyed.key_of (row_key c.args.key) b c.in-Some.n c.in-Some.i) c.deref.ensures.value c.in-Some.ensures) c.remove-row.new.self c.index_mut-block.result.now c.index_mut-block.ensures.value c.remove-row.ensures.by_index.2 in
    record { order = subst (IsInOrder key) (sym rows) (order-without key k (flat c.args.blocks.now.items) c.requires.order); filled = c.drop_empty.ensures.filled }

pub returns-in-Some-clause-row : goal.returns-in-Some-clause-row
returns-in-Some-clause-row g c =
    let block = c.index_mut-block.result.now in
    let read = spot_read (subst (λ b. HasKey g.R.Keyed.key_of (row_key c.args.key) b c.in-Some.n c.in-Some.i) c.deref.ensures.value c.in-Some.ensures).spot block c.index_mut-block.ensures.value block.items refl c.remove-row.result c.remove-row.ensures.value in
    sym (row_found g.R.Keyed.key_of (row_key c.args.key) c.args.blocks.now.items c.in-Some.n c.in-Some.i c.requires (subst (λ b. HasKey g.R.Keyed.key_of (row_key c.args.key) b c.in-Some.n c.in-Some.i) c.deref.ensures.value c.in-Some.ensures) block.items c.remove-row.result read)

pub returns-in-Some-clause-count : goal.returns-in-Some-clause-count
returns-in-Some-clause-count g c =
    let key = g.R.Keyed.key_of in
    let k = row_key c.args.key in
    let rows = c.drop_empty.ensures.rows ∙ flat-taken key k c.args.blocks.now.items c.in-Some.n c.in-Some.i c.requires (subst (λ b. HasKey g.R.Keyed.key_of (row_key c.args.key) b c.in-Some.n c.in-Some.i) c.deref.ensures.value c.in-Some.ensures) c.remove-row.new.self c.index_mut-block.result.now c.index_mut-block.ensures.value c.remove-row.ensures.by_index.2 in
    ap (λ l. length l + 1) rows ∙ length-taken key k c.args.blocks.now.items c.in-Some.n c.in-Some.i c.requires (subst (λ b. HasKey g.R.Keyed.key_of (row_key c.args.key) b c.in-Some.n c.in-Some.i) c.deref.ensures.value c.in-Some.ensures)

pub returns-in-None-clause-rows : goal.returns-in-None-clause-rows
returns-in-None-clause-rows g c = sym (without-none g.R.Keyed.key_of (row_key c.args.key) (flat c.args.blocks.now.items) (subst (λ b. row_at g.R.Keyed.key_of (row_key c.args.key) (flat b) ≡ None) c.deref.ensures.value c.in-None.ensures))
