use Rattle.std.proofs.Common.{◌≡◌, drop}
use Rattle.address_grammar.specs.Words.{spaced}
use Rattle.canon_writer.specs.Counting.{with_bytes, ids_behind}
use Rattle.canon_writer.proofs.value_sizes.with_ids.Given as goal

-- What is counted, and the ids that are left.
abbrev pub invariant-loop-id : goal.invariant-loop-id
invariant-loop-id l = with_bytes l.counted (ids_behind l.between (drop l.id-index l.ids)) ≡ with_bytes l.fn.field (spaced l.ids)
