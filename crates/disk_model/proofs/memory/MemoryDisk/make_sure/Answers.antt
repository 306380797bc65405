use Rattle.std.proofs.Common.{sym, subst}
use Rattle.disk_model.specs.Memory.{IsRecorded}
use Rattle.disk_model.proofs.History.{recorded_sync}
use Rattle.disk_model.proofs.memory.MemoryDisk.make_sure.Goals as goal

pub invariant_of-self : goal.invariant_of-self
invariant_of-self c =
    subst (λ changes. IsRecorded c.self.inside.first.items changes c.self.inside.bytes.items) (sym c.in-Ok.ensures.items)
    (recorded_sync c.self.inside.first.items c.self.inside.changes.items c.self.inside.bytes.items c.self.invariant)
