use Rattle.std.proofs.Common.{◌≡◌, ◌++◌, length, map}
use Rattle.mailbox_core.proofs.keywords.owned.Given as goal

abbrev pub invariant-words : goal.invariant-words
invariant-words l = l.own.items ++ map (λ w. w.now) l.words.keys ≡ map (λ w. w.now) l.fn.words.keys

abbrev pub decreases-words : goal.decreases-words
decreases-words l = length l.words.keys
