use Rattle.std.proofs.Common.{◌≡◌, ◌++◌, length, map}
use Rattle.imap_grammar.specs.declared.flags.Flag.TheVariants.{Keyword}
use Rattle.mailbox_reader.proofs.keywords.with_keywords.Given as goal

abbrev pub invariant-words : goal.invariant-words
invariant-words l = l.flags.items ++ map Keyword (map (λ w. w.now) l.words.keys) ≡ l.fn.flags.items ++ map Keyword (map (λ w. w.now) l.fn.words.keys)

abbrev pub decreases-words : goal.decreases-words
decreases-words l = length l.words.keys
