use Rattle.envelope_view.proofs.SliceLemmas.{section_laws}
use Rattle.envelope_view.proofs.laws.law_sections.Goals as goal

pub returns : goal.returns
returns c = section_laws
