use Rattle.std.proofs.Common.{◌≡◌, Some, drop}
use Rattle.envelope_view.specs.Parts.{part_behind}
use Rattle.envelope_view.proofs.parts.part_behind.Given as goal

-- The part so far, and the numbers that are left.
abbrev pub invariant-loop-n : goal.invariant-loop-n
invariant-loop-n l = part_behind (drop l.n-index l.others) (Some l.at) ≡ part_behind l.others (Some l.part)
