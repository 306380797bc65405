use Rattle.std.proofs.Common.{◌≡◌, ◌+◌, ◌*◌, drop}
use Rattle.mime_tree.specs.Contents.{content_of, trees_of}
use Rattle.mime_tree.specs.Sizes.{nodes, nodes_in, nodes_of}
use Rattle.canon_writer.specs.Counting.{capped}
use Rattle.canon_writer.specs.Printing.{print_parts}
use Rattle.envelope_view.specs.Lines.{line_count}
use Rattle.envelope_view.proofs.counting.+ended.Given as goal

abbrev pub decreases-parts_lines : goal.decreases-parts_lines
decreases-parts_lines l = 3 * nodes_of (trees_of l.parts.now) + 1

abbrev pub decreases-ended_message_lines : goal.decreases-ended_message_lines
decreases-ended_message_lines l = 3 * nodes l.message.now

abbrev pub decreases-ended_body_lines : goal.decreases-ended_body_lines
decreases-ended_body_lines l = 3 * nodes_in (content_of l.body.now) + 2

-- What is counted, and the parts that are left.
abbrev pub invariant-parts_lines-loop-part : goal.invariant-parts_lines-loop-part
invariant-parts_lines-loop-part l =
    capped (l.count + line_count (print_parts l.boundary (trees_of (drop l.part-index l.parts)))) ≡ capped (line_count (print_parts l.boundary (trees_of l.parts)))
