use Rattle.disk_model.specs.Memory.{state_at, IsImageBy}
use Rattle.disk_model.proofs.Tearing.{chosen_is_image}
use Rattle.std.proofs.Common.{rules}
use Rattle.disk_model.proofs.memory.MemoryDisk.image.Goals as goal

pub returns-clause-left : goal.returns-clause-left
returns-clause-left c =
    let s = state_at c.args.self.now.first c.args.self.now.changes c.args.moment in
    let chosen : IsImageBy s.synced s.ranges c.args.choice.now c.in_ok-image.image.items = search rules in
    chosen_is_image s.synced s.ranges c.args.choice.now c.in_ok-image.image.items chosen
