use Rattle.fetch_writer.proofs.SameLemmas.{same_items}
use Rattle.fetch_writer.proofs.laws.law_same_items.Goals as goal

pub returns : goal.returns
returns c = same_items
