use Rattle.ordered_rows.proofs.Keys.{order-with_replaced}
use Rattle.ordered_rows.proofs.laws.order_after_replace.Goals as goal

pub returns : goal.returns
returns g c = order-with_replaced g.R.Keyed.key_of
