use Rattle.std.proofs.Common.{◌≡◌, ℕ, ◌+◌, ◌*◌, List, length, drop}
use Rattle.mime_tree.specs.Contents.{content_of, trees_of}
use Rattle.mime_tree.specs.Sizes.{nodes, nodes_in, nodes_of}
use Rattle.canon_writer.specs.Counting.{capped}
use Rattle.canon_writer.specs.Printing.{print_parts}
use Rattle.canon_writer.proofs.sizes.+sizing.Given as goal

abbrev pub decreases-printed_size : goal.decreases-printed_size
decreases-printed_size l = 3 * nodes l.message.now

abbrev pub decreases-size_within : goal.decreases-size_within
decreases-size_within l = 3 * nodes_in (content_of l.body.now) + 2

abbrev pub decreases-parts_size : goal.decreases-parts_size
decreases-parts_size l = 3 * nodes_of (trees_of l.parts.now) + 1

-- What is counted, and the parts that are left.
abbrev pub invariant-parts_size-loop-part : goal.invariant-parts_size-loop-part
invariant-parts_size-loop-part l = (boundary : List ℕ) → length boundary ≡ l.boundary_size →
    capped (l.size + length (print_parts boundary (trees_of (drop l.part-index l.parts)))) ≡ capped (length (print_parts boundary (trees_of l.parts)))
