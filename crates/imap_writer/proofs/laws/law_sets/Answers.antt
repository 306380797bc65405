use Rattle.imap_writer.proofs.SetLaws.{members-runs, runs-apart}
use Rattle.imap_writer.proofs.laws.law_sets.Goals as goal

pub returns-clause-members : goal.returns-clause-members
returns-clause-members c = members-runs

pub returns-clause-apart : goal.returns-clause-apart
returns-clause-apart c = runs-apart
