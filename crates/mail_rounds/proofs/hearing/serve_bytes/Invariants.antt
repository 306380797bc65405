use Rattle.std.proofs.Common.{◌≡◌, length}
use Rattle.mail_rounds.proofs.Halfway.{Halfway}
use Rattle.mail_rounds.proofs.hearing.serve_bytes.Given as goal

-- The link is where the bytes so far bring it, and the core can go on.
abbrev pub invariant-bytes : goal.invariant-bytes
invariant-bytes g l = record {
  same_number : l.link.number ≡ l.fn.link.number;
  ready : g.C.Core.seen.ready l.core;
  faults : g.C.Core.seen.faults l.core ≡ g.C.Core.seen.faults l.fn.core;
  half : Halfway g.C.Core.seen l.fn.core l.fn.link l.core l.link l.moment l.piece l.rest;
}

abbrev pub decreases-bytes : goal.decreases-bytes
decreases-bytes g l = length l.rest
