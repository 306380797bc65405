use Rattle.ordered_rows.proofs.Numbers.{all_at_keys}
use Rattle.ordered_rows.proofs.laws.rows_at_keys.Goals as goal

pub returns : goal.returns
returns g c = all_at_keys g.R.Keyed.key_of
