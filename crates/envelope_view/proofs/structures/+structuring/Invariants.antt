use Rattle.std.proofs.Common.{◌≡◌, ◌+◌, ◌*◌, ◌++◌, drop}
use Rattle.mime_tree.specs.Contents.{content_of, trees_of}
use Rattle.mime_tree.specs.Sizes.{nodes, nodes_in, nodes_of}
use Rattle.envelope_view.specs.Structure.{parts_structure}
use Rattle.envelope_view.proofs.structures.+structuring.Given as goal

abbrev pub decreases-push_part : goal.decreases-push_part
decreases-push_part l = 3 * nodes l.part.now

abbrev pub decreases-push_content : goal.decreases-push_content
decreases-push_content l = 3 * nodes_in (content_of l.body.now) + 2

abbrev pub decreases-push_parts : goal.decreases-push_parts
decreases-push_parts l = 3 * nodes_of (trees_of l.parts.now) + 1

abbrev pub decreases-push_nested : goal.decreases-push_nested
decreases-push_nested l = 3 * nodes l.inner.now + 1

-- What is written, and the parts that are left.
abbrev pub invariant-push_parts-loop-part : goal.invariant-push_parts-loop-part
invariant-push_parts-loop-part l =
    l.out.items ++ parts_structure l.extended l.digest (trees_of (drop l.part-index l.parts)) ≡ l.fn.out.items ++ parts_structure l.extended l.digest (trees_of l.parts)
