use Rattle.std.proofs.Common.{arith}
use Rattle.session_view.proofs.Rising.{few}
use Rattle.session_view.proofs.uids.are_few.Goals as goal

pub returns : goal.returns
returns c = few c.args.uids.now c.requires (λ k. omega (arith, c.type_inv.uids k))
