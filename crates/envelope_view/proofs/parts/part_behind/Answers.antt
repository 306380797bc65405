use Rattle.std.proofs.Common.{◌+◌, drop, sym, ap, ◌∙◌}
use Rattle.envelope_view.specs.Parts.{part_behind}
use Rattle.envelope_view.proofs.PartLemmas.{none_behind, next_part}
use Rattle.envelope_view.proofs.parts.part_behind.Goals as goal

pub returns-in-None : goal.returns-in-None
returns-in-None c =
    let others = c.args.others.now in
    let at = c.loop-n.n-index in
    sym (none_behind (drop (at + 1) others)) ∙ ap (part_behind (drop (at + 1) others)) c.in-None.ensures
    ∙ sym (next_part others at c.loop-n.at.now c.loop-n-test.true) ∙ c.loop-n.invariant
