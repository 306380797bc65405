use Rattle.std.proofs.Common.{drop}
use Rattle.mailbox_names.proofs.Matching.{Says}
use Rattle.mailbox_names.proofs.fronts.steps.Given as goal

abbrev pub invariant-pattern : goal.invariant-pattern
invariant-pattern l = Says l.pattern (drop l.p-index l.pattern) l.name l.row
