use Rattle.std.proofs.Common.{◌≡◌}
use Rattle.std.specs.Prelude.{◌||◌, length}
use Rattle.imap_grammar.specs.Selecting.{some_condstore, last_resync}
use Rattle.imap_grammar.proofs.OpeningLemmas.{or_else}
use Rattle.imap_grammar.proofs.selecting.asked.Given as goal

abbrev pub invariant-words : goal.invariant-words
invariant-words l =
    (some_condstore l.all || l.condstore ≡ some_condstore l.fn.all)
    × (or_else l.resync (last_resync l.all) ≡ last_resync l.fn.all)

abbrev pub decreases-words : goal.decreases-words
decreases-words l = length l.all
