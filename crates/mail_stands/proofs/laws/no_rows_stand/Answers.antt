use Rattle.mail_stands.proofs.Nothing.{nothing-stands}
use Rattle.mail_stands.proofs.laws.no_rows_stand.Goals as goal

pub returns : goal.returns
returns c content = nothing-stands c.stores_stay_legal.ensures.made content
