use Rattle.std.proofs.Common.{[], ◌∷◌, ◌++◌, take, sym, ◌∙◌, ap}
use Rattle.std.proofs.lemmas.List.{take_more}
use Rattle.disk_model.specs.declared.memory.Change.{Change}
use Rattle.disk_model.specs.Memory.{State, at_rest, after, next}
use Rattle.disk_model.proofs.History.{after_more}
use Rattle.disk_model.proofs.replaying.replay.Goals as goal

pub loop-change-preserved : goal.loop-change-preserved
loop-change-preserved c =
    let changes = c.args.changes.now in
    let start = at_rest c.args.first.now in
    let so_far = take c.loop-change.change-index changes in
    c.in_ok-follow.ensures ∙ ap (λ (s : State). next s c.change-item.result) c.loop-change.invariant
    ∙ sym (after_more start so_far c.change-item.result)
    ∙ ap (λ (change : Change). after start (so_far ++ change ∷ [])) c.change-item.is
    ∙ ap (after start) (sym (take_more changes c.loop-change.change-index c.change-item.result c.loop-change-test.true))
