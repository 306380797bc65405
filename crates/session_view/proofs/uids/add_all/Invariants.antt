use Rattle.std.proofs.Common.{◌≡◌, ◌++◌, take}
use Rattle.session_view.proofs.uids.add_all.Given as goal

abbrev pub invariant-loop-uid : goal.invariant-loop-uid
invariant-loop-uid l = l.list ≡ l.fn.list ++ take l.uid-index l.uids
