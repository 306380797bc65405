use Rattle.std.proofs.Common.{◌≡◌, ◌∷◌, take}
use Rattle.mime_reader.proofs.reading.within.Given as goal

abbrev pub invariant-loop-outer : goal.invariant-loop-outer
invariant-loop-outer l = l.inner.items ≡ l.own ∷ take l.outer-index l.enclosing
