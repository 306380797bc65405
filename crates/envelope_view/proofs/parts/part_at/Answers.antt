use Rattle.std.proofs.Common.{sym, ap, ◌∙◌}
use Rattle.envelope_view.specs.Parts.{part_behind}
use Rattle.envelope_view.proofs.PartLemmas.{none_behind}
use Rattle.envelope_view.proofs.parts.part_at.Goals as goal

pub returns-in-None : goal.returns-in-None
returns-in-None c = let others = c.args.others.now in sym (none_behind others) ∙ ap (part_behind others) c.in-None.ensures
