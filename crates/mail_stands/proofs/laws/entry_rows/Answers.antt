use Rattle.mail_stands.proofs.Staying.{rows_in_all}
use Rattle.mail_stands.proofs.laws.entry_rows.Goals as goal

pub returns : goal.returns
returns c = rows_in_all
