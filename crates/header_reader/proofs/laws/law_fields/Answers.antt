use Rattle.header_reader.proofs.GoodLemmas.{good}
use Rattle.header_reader.proofs.PlaceLemmas.{place_body}
use Rattle.header_reader.proofs.laws.law_fields.Goals as goal

pub returns : goal.returns
returns c = record { good = good; body_at = place_body }
