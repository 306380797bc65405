use Rattle.mime_reader.proofs.ValueSizeLemmas.{Counts}
use Rattle.mime_reader.proofs.value_sizes.quoted_size.Given as goal

abbrev pub invariant-loop-at : goal.invariant-loop-at
invariant-loop-at l = Counts l.text l.size l.escaped l.at
