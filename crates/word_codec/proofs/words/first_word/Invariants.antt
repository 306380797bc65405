use Rattle.word_codec.specs.Found.{NoneBefore}
use Rattle.word_codec.proofs.words.first_word.Given as goal

abbrev pub invariant-loop-start : goal.invariant-loop-start
invariant-loop-start l = NoneBefore l.text l.start
