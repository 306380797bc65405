use Rattle.std.proofs.Common.{◌≡◌, ◌++◌, drop}
use Rattle.imap_grammar.specs.Spellings.{unescaped}
use Rattle.imap_grammar.proofs.SpellingLemmas.{left}
use Rattle.imap_grammar.proofs.spellings.unescape.Given as goal

abbrev pub invariant-loop-b : goal.invariant-loop-b
invariant-loop-b l = l.out.items ++ left l.behind (drop l.b-index l.bytes) ≡ unescaped l.bytes
