use Rattle.std.proofs.Common.{ℕ, List, subst}
use Rattle.mailbox_names.specs.Fronts.{IsPart}
use Rattle.mailbox_names.proofs.Wanted.{part_listed}
use Rattle.mailbox_names.proofs.parts.needed_front.Goals as goal

pub returns : goal.returns
returns c = λ names part is. part_listed c.args.pattern.now names part (subst (λ (front : List ℕ). IsPart front names part) c.in_ok-front.ensures is)
