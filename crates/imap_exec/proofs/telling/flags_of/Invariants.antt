use Rattle.std.proofs.Common.{◌≡◌, ◌∷◌, map, take}
use Rattle.imap_grammar.specs.declared.flags.Flag.TheVariants.{Answered, Flagged, Deleted, Seen, Draft, Keyword}
use Rattle.imap_exec.proofs.telling.flags_of.Given as goal

abbrev pub invariant-keywords : goal.invariant-keywords
invariant-keywords l = l.flags.items ≡ Answered ∷ Flagged ∷ Deleted ∷ Seen ∷ Draft ∷ map Keyword (take l.keyword-index l.keywords)
