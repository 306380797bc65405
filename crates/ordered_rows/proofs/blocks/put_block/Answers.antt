use Rattle.std.proofs.Common.{◌<◌, length, sym, subst}
use Rattle.ordered_rows.specs.Blocks.{AreFilled}
use Rattle.ordered_rows.proofs.Edits.{length-middle}
use Rattle.ordered_rows.proofs.Spots.{AreFilled-append}
use Rattle.ordered_rows.proofs.blocks.put_block.Goals as goal

pub returns-clause-filled : goal.returns-clause-filled
returns-clause-filled g c =
    subst AreFilled (sym c.in_ok-push-2.ensures.items) (AreFilled-append c.args.blocks.now.items _ c.requires (subst (λ l. 0 < length l) (sym c.in_ok-push.ensures.items) (length-middle _ c.args.row _), tt))
