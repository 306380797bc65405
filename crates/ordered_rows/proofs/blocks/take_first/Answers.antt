use Rattle.std.proofs.Common.{◌+◌, length, None, refl, sym, subst, ap, ◌∙◌}
use Rattle.ordered_rows.specs.Blocks.{flat, HasFirst, IsFirst}
use Rattle.ordered_rows.specs.Listed.{IsInOrder, without_number}
use Rattle.ordered_rows.proofs.Edits.{AreFilled-others, row_found, flat-taken, length-taken, spot_read}
use Rattle.ordered_rows.proofs.Firsts.{without_first, IsTakenAt}
use Rattle.ordered_rows.proofs.Keys.{order-without, same_is}
use Rattle.ordered_rows.proofs.blocks.take_first.Goals as goal

pub drop_empty-requires-clause-others : goal.drop_empty-requires-clause-others
drop_empty-requires-clause-others g c = AreFilled-others c.args.blocks.now.items c.in-Some.n c.remove-row.new.self c.requires.filled

pub returns-in-Some-clause-table : goal.returns-in-Some-clause-table
returns-in-Some-clause-table g c =
    let key = g.R.Keyed.key_of in
    let first = subst (λ b. HasFirst key c.args.number b c.in-Some.n c.in-Some.i) c.deref.ensures.value c.in-Some.ensures in
    let rows = c.drop_empty.ensures.rows ∙ flat-taken key (key first.row) c.args.blocks.now.items c.in-Some.n c.in-Some.i c.requires first.found c.remove-row.new.self c.index_mut-block.result.now c.index_mut-block.ensures.value c.remove-row.ensures.by_index.2 in
    record { order = subst (IsInOrder key) (sym rows) (order-without key (key first.row) _ c.requires.order); filled = c.drop_empty.ensures.filled }

pub returns-in-Some-clause-others : goal.returns-in-Some-clause-others
returns-in-Some-clause-others g c =
    let key = g.R.Keyed.key_of in
    let first = subst (λ b. HasFirst key c.args.number b c.in-Some.n c.in-Some.i) c.deref.ensures.value c.in-Some.ensures in
    let rows = c.drop_empty.ensures.rows ∙ flat-taken key (key first.row) c.args.blocks.now.items c.in-Some.n c.in-Some.i c.requires first.found c.remove-row.new.self c.index_mut-block.result.now c.index_mut-block.ensures.value c.remove-row.ensures.by_index.2 in
    ap (without_number key c.args.number) rows ∙ without_first key c.args.number first.row _ first.numbered

pub returns-in-Some-clause-row : goal.returns-in-Some-clause-row
returns-in-Some-clause-row g c =
    let key = g.R.Keyed.key_of in
    let first = subst (λ b. HasFirst key c.args.number b c.in-Some.n c.in-Some.i) c.deref.ensures.value c.in-Some.ensures in
    let rows = c.drop_empty.ensures.rows ∙ flat-taken key (key first.row) c.args.blocks.now.items c.in-Some.n c.in-Some.i c.requires first.found c.remove-row.new.self c.index_mut-block.result.now c.index_mut-block.ensures.value c.remove-row.ensures.by_index.2 in
    let block = c.index_mut-block.result.now in
    let read = spot_read first.found.spot block c.index_mut-block.ensures.value block.items refl c.remove-row.result c.remove-row.ensures.value in
    let same = sym (ap key read.row_is ∙ same_is (key first.found.spot.row) (key first.row) first.found.has) in
    subst (IsTakenAt key c.remove-row.result (flat c.args.blocks.now.items) (flat c.drop_empty.new.blocks.items)) same
    (row_found key (key first.row) c.args.blocks.now.items c.in-Some.n c.in-Some.i c.requires first.found block.items c.remove-row.result read, rows)

pub returns-in-Some-clause-count : goal.returns-in-Some-clause-count
returns-in-Some-clause-count g c =
    let key = g.R.Keyed.key_of in
    let first = subst (λ b. HasFirst key c.args.number b c.in-Some.n c.in-Some.i) c.deref.ensures.value c.in-Some.ensures in
    let rows = c.drop_empty.ensures.rows ∙ flat-taken key (key first.row) c.args.blocks.now.items c.in-Some.n c.in-Some.i c.requires first.found c.remove-row.new.self c.index_mut-block.result.now c.index_mut-block.ensures.value c.remove-row.ensures.by_index.2 in
    ap (λ l. length l + 1) rows ∙ length-taken key (key first.row) c.args.blocks.now.items c.in-Some.n c.in-Some.i c.requires first.found

pub returns-in-None-clause-none : goal.returns-in-None-clause-none
returns-in-None-clause-none g c = λ e. subst (λ b. IsFirst g.R.Keyed.key_of c.args.number b None) c.deref.ensures.value c.in-None.ensures
