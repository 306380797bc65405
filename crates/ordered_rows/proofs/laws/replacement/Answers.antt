use Rattle.ordered_rows.proofs.Changes.{replaced_is}
use Rattle.ordered_rows.proofs.laws.replacement.Goals as goal

pub returns : goal.returns
returns g c = replaced_is g.R.Keyed.key_of
