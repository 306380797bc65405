use Rattle.std.proofs.Common.{◌≤◌, [], ◌∷◌, ◌++◌, List, length, ap, arith}
use Rattle.disk_model.specs.declared.memory.Change.{Change}
use Rattle.disk_model.specs.declared.memory.Change.TheVariants.{Write}
use Rattle.disk_model.specs.Memory.{IsRecorded, state_of}
use Rattle.disk_model.specs.Calls.{overwritten}
use Rattle.disk_model.proofs.History.{recorded_write}
use Rattle.disk_model.proofs.memory.MemoryDisk.put.Goals as goal

pub invariant_of-self : goal.invariant_of-self
invariant_of-self c =
    let within : c.args.at ≤ length c.self.inside.bytes.items = omega (arith, c.requires, ap length c.self.invariant.reading, ap (λ disk. length (state_of disk).reading) c.self.view_is) in
    let changes : List Change = c.self.inside.changes.items ++ Write c.args.at c.args.bytes.now ∷ [] in
    let recorded : IsRecorded c.self.inside.first.items changes (overwritten c.args.at c.args.bytes.now c.self.inside.bytes.items) =
    recorded_write c.self.inside.first.items c.self.inside.changes.items c.self.inside.bytes.items c.self.invariant c.args.at c.args.bytes.now within in
    rw (c.in-Ok.ensures.ok, c.in-Ok.ensures.recorded) recorded
