use Rattle.std.proofs.Common.{◌+◌, ◌-◌, ◌^◌, min, Err, ◌∙◌, ap, arith}
use Rattle.disk_model.specs.Memory.{Memory}
use Rattle.disk_model.proofs.Attempts.{counted}
use Rattle.disk_model.proofs.memory.MemoryDiskDisk.len.Goals as goal

pub returns-then-count_call-clause-cause : goal.returns-then-count_call-clause-cause
returns-then-count_call-clause-cause c =
    let same = ap (λ (disk : Memory). disk.faults) c.count_call.ensures.counted in
    let more = ap (λ (disk : Memory). disk.faults) c.fault.ensures.counted in
    counted c.args.self.now c.fault.new.self (Err c.fault.result) (omega (arith, same, c.fault.ensures.never_falls)) (more ∙ ap (λ n. min (n + 1) (2 ^ 64 - 1)) same) tt
