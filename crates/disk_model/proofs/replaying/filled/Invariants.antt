use Rattle.std.proofs.Common.{◌≡◌, ◌≤◌, ◌<◌, ℕ, length, get_or}
use Rattle.disk_model.specs.Memory.{chosen, free_below}
use Rattle.disk_model.proofs.replaying.filled.Given as goal

abbrev pub invariant-loop-place : goal.invariant-loop-place
invariant-loop-place l = record {
  size : length l.image.items ≡ l.place;
  used : l.used ≡ free_below l.synced l.ranges l.place;
  few : l.used ≤ l.place;
  bytes : (place : ℕ) → place < l.place → get_or l.image.items place 0 ≡ chosen l.synced l.ranges l.choice place;
}
