use Rattle.std.proofs.Common.{◌≡◌, ⊎_elim, Some, [], ap, subst, sym}
use Rattle.std.proofs.lemmas.Result.{on_ok_weaker, on_err_weaker}
use Rattle.disk_model.specs.declared.memory.Change.TheVariants.{Sync}
use Rattle.disk_model.specs.Images.{Only}
use Rattle.disk_model.specs.Memory.{State, next, state_of}
use Rattle.disk_model.specs.Lawful.{may_leave, reading_is_image_of}
use Rattle.disk_model.proofs.Tearing.{exact}
use Rattle.disk_model.proofs.Attempts.{either_state, done_state, alone, elapses, has_cause}
use Rattle.disk_model.proofs.memory.MemoryDiskDisk.sync.Goals as goal

pub returns-clause-sure : goal.returns-clause-sure
returns-clause-sure c =
    let reading = (state_of c.args.self.now).reading in
    on_ok_weaker c.attempt_sync.result
    (λ (is : state_of c.attempt_sync.new.self ≡ next (state_of c.args.self.now) Sync). subst (λ (s : State). Only reading (may_leave s)) (sym is) (λ image left. (exact reading [] image).1 left))
    (done_state _ _ _ _ _ c.attempt_sync.ensures.attempt)

pub returns-clause-alone : goal.returns-clause-alone
returns-clause-alone c = on_err_weaker c.attempt_sync.result (alone c.args.self.now c.attempt_sync.new.self c.attempt_sync.ensures.attempt.first) c.attempt_sync.ensures.alone

pub returns-clause-reading : goal.returns-clause-reading
returns-clause-reading c =
    ⊎_elim
    (λ (is : state_of c.attempt_sync.new.self ≡ next (state_of c.args.self.now) Sync). ap (λ (s : State). Some s.reading) is)
    (λ (is : state_of c.attempt_sync.new.self ≡ state_of c.args.self.now). ap (λ (s : State). Some s.reading) is)
    (either_state _ _ _ _ _ c.attempt_sync.ensures.attempt)

pub returns-clause-images : goal.returns-clause-images
returns-clause-images c image left =
    let old = state_of c.args.self.now in
    ⊎_elim
    (λ (is : state_of c.attempt_sync.new.self ≡ next old Sync). subst (may_leave old) (sym ((exact old.reading [] image).1 (subst (λ (s : State). may_leave s image) is left))) (reading_is_image_of c.args.self.now))
    (λ (is : state_of c.attempt_sync.new.self ≡ old). subst (λ (s : State). may_leave s image) is left)
    (either_state _ _ _ _ _ c.attempt_sync.ensures.attempt)

pub returns-clause-time : goal.returns-clause-time
returns-clause-time c = elapses _ _ _ _ _ c.attempt_sync.ensures.attempt

pub returns-clause-cause : goal.returns-clause-cause
returns-clause-cause c = has_cause _ _ _ _ _ c.attempt_sync.ensures.attempt
