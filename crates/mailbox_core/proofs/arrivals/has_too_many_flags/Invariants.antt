use Rattle.std.proofs.Common.{◌≡◌, ◌≤◌, length, take}
use Rattle.mail_world.specs.Flags.{distinct}
use Rattle.mail_world.specs.Limits.{most_flags}
use Rattle.mailbox_core.proofs.arrivals.has_too_many_flags.Given as goal

-- The distinct ones of the flags so far are counted.
abbrev pub invariant-loop-place : goal.invariant-loop-place
invariant-loop-place l = record {
  counted : l.count ≡ length (distinct (take l.place l.flags));
  few : l.count ≤ most_flags;
}
