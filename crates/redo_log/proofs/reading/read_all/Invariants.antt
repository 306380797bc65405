use Rattle.std.proofs.Common.{◌≡◌, ◌≤◌, ◌<◌, ◌+◌, ◌-◌, length, take}
use Rattle.disk_model.specs.Told.{IfTold}
use Rattle.disk_model.specs.Calls.{LeavesAlone}
use Rattle.redo_log.proofs.reading.read_all.Given as goal

abbrev pub invariant-loop-count : goal.invariant-loop-count
invariant-loop-count g l = record {
  within : l.count ≤ length l.buf;
  bytes : IfTold (g.D.Disk.told.reading l.initial.disk) (λ file. length l.buf ≡ length file → take l.count l.buf ≡ take l.count file);
  once : IfTold (g.D.Disk.told.reading l.initial.disk) (λ file. length l.buf ≡ length file
      → (0 < l.count → l.count ≡ length l.buf) × (l.count ≡ 0 → g.D.Disk.told.reads l.disk ≡ g.D.Disk.told.reads l.initial.disk) × (g.D.Disk.told.reads l.disk ≤ g.D.Disk.told.reads l.initial.disk + 1));
  alone : LeavesAlone g.D.Disk.told l.initial.disk l.disk;
  quiet : g.D.Disk.told.faults l.disk ≡ g.D.Disk.told.faults l.initial.disk;
}

abbrev pub decreases-loop-count : goal.decreases-loop-count
decreases-loop-count g l = length l.buf - l.count
