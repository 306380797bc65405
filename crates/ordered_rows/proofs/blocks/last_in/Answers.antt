use Rattle.std.proofs.Common.{◌-◌, length, slice_get, sym, ap, ◌∙◌}
use Rattle.ordered_rows.proofs.Edits.{last_row-flat}
use Rattle.ordered_rows.proofs.blocks.last_in.Goals as goal

pub returns : goal.returns
returns g c =
    let items = c.deref.result.now in
    c.last-2.ensures.value ∙ ap (λ l. slice_get l (length l - 1)) c.deref.ensures.value ∙ last_row-flat c.args.blocks.now c.in_ok-block.block.now c.requires (sym c.in_ok-block.ensures.value)
