use Rattle.std.proofs.Common.{◌<◌, length, sym, subst}
use Rattle.std.proofs.lemmas.Option.{slice_get_within}
use Rattle.ordered_rows.proofs.Edits.{AreFilled-set, filled_at, flat-set_same, flat-put, length-middle, on_err}
use Rattle.ordered_rows.proofs.blocks.put_in.Goals as goal

pub returns-in_err-insert-clause-filled : goal.returns-in_err-insert-clause-filled
returns-in_err-insert-clause-filled g c =
    let within = slice_get_within c.args.blocks.now.items c.args.n c.requires.spot.block c.requires.spot.has_block in
    AreFilled-set c.args.blocks.now.items c.args.n c.insert.new.self c.requires.filled (subst (λ l. 0 < length l) (sym c.in_err-insert.ensures.items) (filled_at c.args.blocks.now.items c.args.n c.index_mut-block.result.now c.requires.filled within c.index_mut-block.ensures.value))

pub returns-in_err-insert-clause-err : goal.returns-in_err-insert-clause-err
returns-in_err-insert-clause-err g c =
    let within = slice_get_within c.args.blocks.now.items c.args.n c.requires.spot.block c.requires.spot.has_block in
    on_err c.from_residual.result _ (flat-set_same c.args.blocks.now.items c.args.n c.insert.new.self c.index_mut-block.result.now within c.index_mut-block.ensures.value c.in_err-insert.ensures.items)

pub returns-clause-filled : goal.returns-clause-filled
returns-clause-filled g c = AreFilled-set c.args.blocks.now.items c.args.n c.insert.new.self c.requires.filled (subst (λ l. 0 < length l) (sym c.in_ok-insert.ensures.items) (length-middle _ c.args.row _))

pub returns-clause-ok : goal.returns-clause-ok
returns-clause-ok g c =
    let within = slice_get_within c.args.blocks.now.items c.args.n c.requires.spot.block c.requires.spot.has_block in
    flat-put g.R.Keyed.key_of c.args.row c.args.blocks.now.items c.args.n c.args.i c.requires.spot c.insert.new.self c.index_mut-block.result.now within c.index_mut-block.ensures.value c.in_ok-insert.ensures.items
