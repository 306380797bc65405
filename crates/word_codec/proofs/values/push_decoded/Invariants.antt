use Rattle.std.proofs.Common.{◌++◌, ◌-◌, length, string_bytes}
use Rattle.word_codec.specs.Texts.{value_text}
use Rattle.word_codec.proofs.CutLemmas.{Written}
use Rattle.word_codec.proofs.values.push_decoded.Given as goal

abbrev pub invariant-words : goal.invariant-words
invariant-words l = Written l.value l.shown l.at l.behind_word (string_bytes l.out) (string_bytes l.fn.out ++ value_text l.value)

abbrev pub decreases-words : goal.decreases-words
decreases-words l = length l.value - l.at
