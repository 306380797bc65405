use Rattle.std.proofs.Common.{◌≡◌, drop}
use Rattle.address_grammar.specs.Printing.{escaped}
use Rattle.canon_writer.specs.Counting.{with_bytes}
use Rattle.canon_writer.proofs.value_sizes.with_escaped.Given as goal

-- What is counted, and the bytes that are left.
abbrev pub invariant-loop-b : goal.invariant-loop-b
invariant-loop-b l = with_bytes l.counted (escaped (drop l.b-index l.text)) ≡ with_bytes l.fn.field (escaped l.text)
