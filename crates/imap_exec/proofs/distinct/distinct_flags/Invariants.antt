use Rattle.std.proofs.Common.{◌≡◌, ◌≤◌, drop, length}
use Rattle.mail_world.specs.Flags.{distinct}
use Rattle.imap_exec.proofs.distinct.distinct_flags.Given as goal

-- Those that are found are the distinct ones of the flags from here on.
abbrev pub invariant-flags : goal.invariant-flags
invariant-flags l = record {
  within : l.left ≤ length l.flags;
  found : l.found.items ≡ distinct (drop l.left l.flags);
}

abbrev pub decreases-flags : goal.decreases-flags
decreases-flags l = l.left
