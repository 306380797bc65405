use Rattle.std.proofs.Common.{◌≡◌, ◌++◌, take, drop}
use Rattle.session_view.specs.Order.{rising}
use Rattle.session_view.proofs.uids.rising_len.Given as goal

abbrev pub invariant-loop-place : goal.invariant-loop-place
invariant-loop-place l = rising 0 l.numbers ≡ take l.place l.numbers ++ rising l.last (drop l.place l.numbers)
