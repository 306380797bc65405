use Rattle.std.proofs.Common.{◌≡◌, ◌++◌, drop, nat_le}
use Rattle.std.specs.List.{filter}
use Rattle.mailbox_core.proofs.uid_lists.uids_from.Given as goal

abbrev pub invariant-loop-uid : goal.invariant-loop-uid
invariant-loop-uid l = l.kept.items ++ filter (λ u. nat_le l.first u) (drop l.uid-index l.uids) ≡ filter (λ u. nat_le l.first u) l.uids
