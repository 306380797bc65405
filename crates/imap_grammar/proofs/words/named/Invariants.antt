use Rattle.std.proofs.Common.{◌≡◌, map, drop}
use Rattle.imap_grammar.specs.Words.{named}
use Rattle.imap_grammar.proofs.words.named.Given as goal

abbrev pub invariant-loop-name : goal.invariant-loop-name
invariant-loop-name g l = named (map (λ e. (e.0.now, e.1)) (drop l.name-index l.table)) l.word ≡ named (map (λ e. (e.0.now, e.1)) l.table) l.word
