use Rattle.mail_text.proofs.DecimalLemmas.{IsRead}
use Rattle.mail_text.proofs.numbers.decimal.Given as goal

abbrev pub invariant-loop-b : goal.invariant-loop-b
invariant-loop-b l = IsRead l.text l.b-index l.value
