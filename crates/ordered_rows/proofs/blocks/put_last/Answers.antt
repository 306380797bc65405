use Rattle.std.proofs.Common.{◌≡◌, ◌<◌, ◌-◌, suc, length, sym, subst, arith}
use Rattle.ordered_rows.proofs.Edits.{AreFilled-set, filled_at, flat-set_same, flat-set_last, length-middle, on_err}
use Rattle.ordered_rows.proofs.blocks.put_last.Goals as goal

pub returns-in_err-push-clause-filled : goal.returns-in_err-push-clause-filled
returns-in_err-push-clause-filled g c =
    let within : c.len-len.result - 1 < length c.args.blocks.now.items = omega (arith, c.len-len.ensures, c.args.blocks.now.ok.0, c.if-len-eq0.false) in
    AreFilled-set c.args.blocks.now.items _ c.push.new.self c.requires (subst (λ l. 0 < length l) (sym c.in_err-push.ensures.items) (filled_at c.args.blocks.now.items _ c.index_mut-block.result.now c.requires within c.index_mut-block.ensures.value))

pub returns-in_err-push-clause-err : goal.returns-in_err-push-clause-err
returns-in_err-push-clause-err g c =
    let within : c.len-len.result - 1 < length c.args.blocks.now.items = omega (arith, c.len-len.ensures, c.args.blocks.now.ok.0, c.if-len-eq0.false) in
    on_err c.from_residual.result _ (flat-set_same c.args.blocks.now.items _ c.push.new.self c.index_mut-block.result.now within c.index_mut-block.ensures.value c.in_err-push.ensures.items)

pub returns-clause-filled : goal.returns-clause-filled
returns-clause-filled g c = AreFilled-set c.args.blocks.now.items _ c.push.new.self c.requires (subst (λ l. 0 < length l) (sym c.in_ok-push.ensures.items) (length-middle _ c.args.row _))

pub returns-clause-ok : goal.returns-clause-ok
returns-clause-ok g c =
    let whole : suc (c.len-len.result - 1) ≡ length c.args.blocks.now.items = omega (arith, c.len-len.ensures, c.args.blocks.now.ok.0, c.if-len-eq0.false) in
    flat-set_last c.args.blocks.now.items (c.len-len.result - 1) c.push.new.self c.index_mut-block.result.now c.args.row whole c.index_mut-block.ensures.value c.in_ok-push.ensures.items
