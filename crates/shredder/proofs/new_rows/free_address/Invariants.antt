use Rattle.std.proofs.Common.{◌-◌, ◌^◌}
use Rattle.shredder.proofs.new_rows.free_address.Given as goal

abbrev pub decreases-loop-id : goal.decreases-loop-id
decreases-loop-id l = 2 ^ 64 - l.id
