use Rattle.std.proofs.Common.{◌≡◌, ◌+◌, drop, false}
use Rattle.std.specs.Prelude.{option_map}
use Rattle.imap_grammar.specs.Strings.{closing}
use Rattle.imap_grammar.proofs.strings.closing.Given as goal

abbrev pub invariant-loop-at : goal.invariant-loop-at
invariant-loop-at l = option_map (λ n. n + l.at) (closing l.escaped (drop l.at l.text)) ≡ closing false l.text
