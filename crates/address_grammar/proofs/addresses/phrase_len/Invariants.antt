use Rattle.std.proofs.Common.{length, ◌-◌}
use Rattle.address_grammar.proofs.NameLemmas.{IsFront}
use Rattle.address_grammar.proofs.addresses.phrase_len.Given as goal

abbrev pub invariant-loop-len : goal.invariant-loop-len
invariant-loop-len l = IsFront l.pieces l.len

abbrev pub decreases-loop-len : goal.decreases-loop-len
decreases-loop-len l = length l.pieces - l.len
