use Rattle.std.proofs.Common.{◌≡◌, drop}
use Rattle.address_grammar.specs.Printing.{printed}
use Rattle.canon_writer.specs.Counting.{with_bytes, items_behind}
use Rattle.canon_writer.proofs.value_sizes.with_items.Given as goal

-- What is counted, and the items that are left.
abbrev pub invariant-loop-item : goal.invariant-loop-item
invariant-loop-item l = with_bytes l.counted (items_behind l.between (drop l.item-index l.items)) ≡ with_bytes l.fn.field (printed l.items)
