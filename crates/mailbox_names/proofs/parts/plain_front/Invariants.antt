use Rattle.std.proofs.Common.{◌≡◌, ◌++◌, take, drop}
use Rattle.mailbox_names.specs.Finding.{plain_front}
use Rattle.mailbox_names.proofs.parts.plain_front.Given as goal

abbrev pub invariant-plain : goal.invariant-plain
invariant-plain l = plain_front l.pattern ≡ take l.i l.pattern ++ plain_front (drop l.i l.pattern)
