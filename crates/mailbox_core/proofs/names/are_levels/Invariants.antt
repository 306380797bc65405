use Rattle.std.proofs.Common.{◌≡◌, false, drop}
use Rattle.mailbox_core.proofs.Splitting.{levels_go_on}
use Rattle.mailbox_core.proofs.names.are_levels.Given as goal

abbrev pub invariant-loop-b : goal.invariant-loop-b
invariant-loop-b l = levels_go_on false l.name ≡ levels_go_on l.is_open (drop l.b-index l.name)
