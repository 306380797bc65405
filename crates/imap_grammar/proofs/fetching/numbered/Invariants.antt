use Rattle.std.proofs.Common.{◌≡◌, ◌-◌}
use Rattle.imap_grammar.specs.Fetching.{numbered, numbered_from}
use Rattle.imap_grammar.proofs.fetching.numbered.Given as goal

abbrev pub invariant-loop-turn : goal.invariant-loop-turn
invariant-loop-turn l = numbered l.fn.reader ≡ numbered_from (l._turn-end - l._turn) l.path l.reader
