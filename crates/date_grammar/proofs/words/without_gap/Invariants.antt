use Rattle.std.proofs.Common.{◌≡◌, ◌≤◌, drop}
use Rattle.date_grammar.specs.Words.{words}
use Rattle.date_grammar.specs.Scanning.{words_at, outer_of}
use Rattle.date_grammar.proofs.words.without_gap.Given as goal

abbrev pub invariant-loop-at : goal.invariant-loop-at
invariant-loop-at l = (words l.text ≡ words_at l.place (drop l.at l.text)) × (outer_of l.place ≤ l.at)
