use Rattle.mime_reader.proofs.TypeLemmas.{Quotes}
use Rattle.mime_reader.proofs.tokens.quoted.Given as goal

abbrev pub invariant-loop-at : goal.invariant-loop-at
invariant-loop-at l = Quotes l.text l.content.items l.escaped l.at
