use Rattle.std.proofs.Common.{length}
use Rattle.header_reader.proofs.ScanLemmas.{IsSeen}
use Rattle.header_reader.proofs.scan.scan_header.Given as goal

abbrev pub invariant-lines : goal.invariant-lines
invariant-lines l = IsSeen l.text l.rest l.first l.seen.lone_cr l.seen.are_fields l.seen.size

abbrev pub decreases-lines : goal.decreases-lines
decreases-lines l = length l.rest
