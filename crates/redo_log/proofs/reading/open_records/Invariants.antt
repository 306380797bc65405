use Rattle.std.proofs.Common.{◌≡◌, ◌++◌, ◌<◌, ◌^◌, length}
use Rattle.std.specs.List.{flat_map, AllByRecursion}
use Rattle.redo_log.specs.Text.{record_text}
use Rattle.redo_log.proofs.reading.open_records.Given as goal

abbrev pub invariant-loop-payload : goal.invariant-loop-payload
invariant-loop-payload l = record {
  split : l.bytes ≡ flat_map record_text l.payloads.items ++ l.rest;
  fit : AllByRecursion (λ payload. length payload < 2 ^ 64) l.payloads.items;
}

abbrev pub decreases-loop-payload : goal.decreases-loop-payload
decreases-loop-payload l = length l.rest
