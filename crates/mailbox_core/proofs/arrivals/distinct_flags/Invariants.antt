use Rattle.std.proofs.Common.{◌≡◌, map, take}
use Rattle.mail_world.specs.Flags.{distinct}
use Rattle.mailbox_core.proofs.arrivals.distinct_flags.Given as goal

-- Those that are found are the distinct ones of the flags so far.
abbrev pub invariant-loop-flag : goal.invariant-loop-flag
invariant-loop-flag l = map (λ flag. flag.now) l.found.items ≡ distinct (take l.flag-index l.flags)
