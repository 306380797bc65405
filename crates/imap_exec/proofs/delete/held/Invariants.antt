use Rattle.std.proofs.Common.{◌≡◌, take}
use Rattle.imap_steps.specs.Managing.{held}
use Rattle.imap_exec.proofs.delete.held.Given as goal

abbrev pub invariant-loop-part : goal.invariant-loop-part
invariant-loop-part l = l.ids.items ≡ held (take l.part-index l.parts)
