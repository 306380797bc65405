use Rattle.std.proofs.Common.{◌≡◌, ◌+◌, ◌-◌, ◌*◌}
use Rattle.imap_grammar.specs.Lists.{separated, separated_from}
use Rattle.imap_grammar.specs.Searching.{within}
use Rattle.imap_grammar.proofs.searching.+keys.Given as goal

abbrev pub decreases-key : goal.decreases-key
decreases-key l = 4 * l.levels

abbrev pub decreases-row : goal.decreases-row
decreases-row l = 4 * l.levels + 1

abbrev pub decreases-not_key : goal.decreases-not_key
decreases-not_key l = 4 * l.levels + 1

abbrev pub decreases-or_key : goal.decreases-or_key
decreases-or_key l = 4 * l.levels + 1

abbrev pub decreases-group : goal.decreases-group
decreases-group l = 4 * l.levels + 2

abbrev pub decreases-named_key : goal.decreases-named_key
decreases-named_key l = 4 * l.levels + 2

abbrev pub decreases-level : goal.decreases-level
decreases-level l = 4 * l.levels + 3

abbrev pub invariant-row-loop-turn : goal.invariant-row-loop-turn
invariant-row-loop-turn l = separated 32 (within l.levels) l.fn.reader ≡ separated_from 32 (within l.levels) (l._turn-end - l._turn) l.found l.reader
