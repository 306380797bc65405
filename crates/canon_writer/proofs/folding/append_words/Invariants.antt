use Rattle.std.proofs.Common.{◌≡◌, ◌++◌, length}
use Rattle.canon_writer.specs.Folding.{words, folded, words_behind}
use Rattle.canon_writer.specs.Printing.{ended}
use Rattle.canon_writer.proofs.folding.append_words.Given as goal

-- What is written, and the words that are left.
abbrev pub invariant-loop-rest : goal.invariant-loop-rest
invariant-loop-rest l = l.out.items ++ ended (folded l.left (words l.rest)) ≡ l.fn.out.items ++ ended (words_behind l.room (words l.value))

abbrev pub decreases-loop-rest : goal.decreases-loop-rest
decreases-loop-rest l = length l.rest
