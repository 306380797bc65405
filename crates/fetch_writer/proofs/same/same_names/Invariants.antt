use Rattle.std.proofs.Common.{◌≡◌, drop}
use Rattle.fetch_writer.specs.Asked.{same_names}
use Rattle.fetch_writer.proofs.same.same_names.Given as goal

-- The names so far are the same.
abbrev pub invariant-loop-at : goal.invariant-loop-at
invariant-loop-at l = same_names (drop l.at l.names) (drop l.at l.others) ≡ same_names l.names l.others
