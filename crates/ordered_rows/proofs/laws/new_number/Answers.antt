use Rattle.ordered_rows.proofs.Numbers.{number_is_new}
use Rattle.ordered_rows.proofs.laws.new_number.Goals as goal

pub returns : goal.returns
returns g c = number_is_new g.R.Keyed.key_of
