use Rattle.std.proofs.Common.{◌≡◌, ◌-◌, ◌≤◌, length, drop}
use Rattle.std.specs.List.{filter}
use Rattle.std.specs.Ordering.{nat_cmp}
use Rattle.std.specs.BTreeSet.{contains}
use Rattle.port_model.specs.Player.{is_left}
use Rattle.port_model.proofs.player.first_left.Given as goal

abbrev pub invariant-loop-event : goal.invariant-loop-event
invariant-loop-event l = record {
  within : l.at ≤ length l.events;
  same : filter (is_left (contains nat_cmp l.closed)) (drop l.at l.events) ≡ filter (is_left (contains nat_cmp l.closed)) (drop l.from l.events);
}

abbrev pub decreases-loop-event : goal.decreases-loop-event
decreases-loop-event l = length l.events - l.at
