use Rattle.std.proofs.Common.{Result, Ok, Err, OnOk}
use Rattle.redo_log.proofs.Crash.{leaves_first, leaves_both, is_added}
use Rattle.redo_log.proofs.stages.add.Goals as goal

both_done : {T E A B C R : Type 0} (result : Result T E) → (A → B → C → R) → B → OnOk result A → OnOk result C → OnOk result R
both_done (Ok x) step b a c = step a b c
both_done (Err e) step b a c = tt

pub returns-in_err-stage-clause-leaves : goal.returns-in_err-stage-clause-leaves
returns-in_err-stage-clause-leaves g c format generation payloads payload fits block_is ends =
    leaves_first g.D.Disk.told format generation payloads payload c.args.block.now c.args.end fits block_is c.args.disk.now c.stage.new.disk (g.D.Disk.told.reading c.args.disk.now) ends c.stage.ensures.leaves

pub returns-clause-added : goal.returns-clause-added
returns-clause-added g c format generation payloads payload fits block_is ends =
    both_done c.stage-2.result
    (is_added g.D.Disk.told format generation payloads payload c.args.block.now c.args.end fits block_is c.stage-2.new.disk
    (g.D.Disk.told.reading c.args.disk.now) (g.D.Disk.told.reading c.stage.new.disk) (g.D.Disk.told.reading c.stage-2.new.disk) c.in_ok-stage.ensures.written)
    ends c.stage-2.ensures.written c.stage-2.ensures.sure

pub returns-clause-leaves : goal.returns-clause-leaves
returns-clause-leaves g c format generation payloads payload fits block_is ends =
    leaves_both g.D.Disk.told format generation payloads payload c.args.block.now c.args.end fits block_is c.args.disk.now c.stage.new.disk c.stage-2.new.disk
    (g.D.Disk.told.reading c.args.disk.now) (g.D.Disk.told.reading c.stage.new.disk) c.in_ok-stage.ensures.written ends c.stage.ensures.leaves c.stage-2.ensures.leaves
