use Rattle.std.proofs.Common.{◌≡◌, length, take}
use Rattle.session_view.proofs.uids.shorten.Given as goal

abbrev pub invariant-loop-items : goal.invariant-loop-items
invariant-loop-items l = take l.len l.items ≡ take l.len l.fn.items

abbrev pub decreases-loop-items : goal.decreases-loop-items
decreases-loop-items l = length l.items
