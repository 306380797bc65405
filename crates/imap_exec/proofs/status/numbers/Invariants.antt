use Rattle.std.proofs.Common.{◌≡◌, map, take}
use Rattle.imap_exec.specs.Numbers.{data_in}
use Rattle.imap_exec.proofs.status.numbers.Given as goal

abbrev pub invariant-items : goal.invariant-items
invariant-items l = l.all.items ≡ map (data_in l.its) (take l.item-index l.items)
