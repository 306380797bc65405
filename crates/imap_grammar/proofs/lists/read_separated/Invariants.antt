use Rattle.std.proofs.Common.{◌≡◌, ◌-◌}
use Rattle.imap_grammar.specs.Lists.{separated, separated_from}
use Rattle.imap_grammar.proofs.lists.read_separated.Given as goal

abbrev pub invariant-loop-turn : goal.invariant-loop-turn
invariant-loop-turn g l = separated l.between (g.R.Rule.reading l.rule) l.fn.reader ≡ separated_from l.between (g.R.Rule.reading l.rule) (l._turn-end - l._turn) l.found l.reader
