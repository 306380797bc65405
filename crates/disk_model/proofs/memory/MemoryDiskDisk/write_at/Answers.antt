use Rattle.std.proofs.Common.{◌≡◌, Some, ap}
use Rattle.std.proofs.lemmas.Result.{on_ok_weaker}
use Rattle.disk_model.specs.declared.memory.Change.TheVariants.{Write}
use Rattle.disk_model.specs.Memory.{State, next, state_of}
use Rattle.disk_model.proofs.Attempts.{either_state, done_state, elapses, has_cause, torn_reading, tears, tears_all, nothing_sure}
use Rattle.disk_model.proofs.memory.MemoryDiskDisk.write_at.Goals as goal

pub returns-clause-written : goal.returns-clause-written
returns-clause-written c =
    on_ok_weaker c.attempt_write.result (λ (is : state_of c.attempt_write.new.self ≡ next (state_of c.args.self.now) (Write c.args.at c.args.bytes.now)). ap (λ (s : State). Some s.reading) is)
    (done_state _ _ _ _ _ c.attempt_write.ensures.attempt)

pub returns-clause-torn : goal.returns-clause-torn
returns-clause-torn c = torn_reading (state_of c.args.self.now) (state_of c.attempt_write.new.self) c.args.at c.args.bytes.now (either_state _ _ _ _ _ c.attempt_write.ensures.attempt)

pub returns-clause-images : goal.returns-clause-images
returns-clause-images c = tears (state_of c.args.self.now) (state_of c.attempt_write.new.self) c.args.at c.args.bytes.now (either_state _ _ _ _ _ c.attempt_write.ensures.attempt)

pub returns-clause-all_images : goal.returns-clause-all_images
returns-clause-all_images c =
    on_ok_weaker c.attempt_write.result (tears_all (state_of c.args.self.now) (state_of c.attempt_write.new.self) c.args.at c.args.bytes.now) (done_state _ _ _ _ _ c.attempt_write.ensures.attempt)

pub returns-clause-makes_nothing_sure : goal.returns-clause-makes_nothing_sure
returns-clause-makes_nothing_sure c = nothing_sure (state_of c.args.self.now) (state_of c.attempt_write.new.self) c.args.at c.args.bytes.now (either_state _ _ _ _ _ c.attempt_write.ensures.attempt)

pub returns-clause-time : goal.returns-clause-time
returns-clause-time c = elapses _ _ _ _ _ c.attempt_write.ensures.attempt

pub returns-clause-cause : goal.returns-clause-cause
returns-clause-cause c = has_cause _ _ _ _ _ c.attempt_write.ensures.attempt
