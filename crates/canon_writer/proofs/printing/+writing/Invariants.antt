use Rattle.std.proofs.Common.{◌≡◌, ◌+◌, ◌*◌, ◌++◌, drop}
use Rattle.mime_tree.specs.Contents.{content_of, trees_of}
use Rattle.mime_tree.specs.Sizes.{nodes, nodes_in, nodes_of}
use Rattle.canon_writer.specs.Printing.{print_parts}
use Rattle.canon_writer.proofs.printing.+writing.Given as goal

abbrev pub decreases-append_message : goal.decreases-append_message
decreases-append_message l = 3 * nodes l.message.now

abbrev pub decreases-append_body : goal.decreases-append_body
decreases-append_body l = 3 * nodes_in (content_of l.body.now) + 2

abbrev pub decreases-append_parts : goal.decreases-append_parts
decreases-append_parts l = 3 * nodes_of (trees_of l.parts.now) + 1

-- What is written, and the parts that are left.
abbrev pub invariant-append_parts-loop-part : goal.invariant-append_parts-loop-part
invariant-append_parts-loop-part l = l.out.items ++ print_parts l.boundary (trees_of (drop l.part-index l.parts)) ≡ l.fn.out.items ++ print_parts l.boundary (trees_of l.parts)
