use Rattle.ordered_rows.proofs.AfterEdits.{behind_last, last-push}
use Rattle.ordered_rows.proofs.laws.last_row_after_insert.Goals as goal

pub returns-clause-behind : goal.returns-clause-behind
returns-clause-behind g c = behind_last g.R.Keyed.key_of

pub returns-clause-last : goal.returns-clause-last
returns-clause-last g c row rows = last-push rows row
