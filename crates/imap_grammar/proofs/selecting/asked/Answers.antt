use Rattle.std.proofs.Common.{◌∙◌, ap}
use Rattle.std.specs.Prelude.{◌||◌}
use Rattle.imap_grammar.specs.Selecting.{some_condstore, last_resync}
use Rattle.imap_grammar.proofs.OpeningLemmas.{or_else, condstore_taken, resync_taken}
use Rattle.imap_grammar.proofs.selecting.asked.Goals as goal

pub words-preserved : goal.words-preserved
words-preserved c = (
  ap (λ b. some_condstore c.pop.new.self || b) c.asks_condstore-condstore.ensures ∙ condstore_taken c.words.all c.pop.new.self c.in-Some.last c.words.condstore c.in-Some.ensures ∙ c.words.invariant.0,
  ap (λ r. or_else r (last_resync c.pop.new.self)) c.unless_found-resync.ensures ∙ resync_taken c.words.all c.pop.new.self c.in-Some.last c.words.resync c.in-Some.ensures ∙ c.words.invariant.1,
)
