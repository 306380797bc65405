use Rattle.std.proofs.Common.{◌+◌, ◌-◌, ◌*◌, ◌^◌, ◌≤◌, length}
use Rattle.mime_tree.specs.Sizes.{levels_of}
use Rattle.mime_tree.specs.Trees.{Trees}
use Rattle.row_store.specs.Holding.{stored_by, in_row}
use Rattle.shredder.specs.MessageRows.{HasChildren}
use Rattle.rebuilder.proofs.Children.{AreHalfway}
use Rattle.rebuilder.proofs.parts.+tree.Given as goal

abbrev pub decreases-node_in : goal.decreases-node_in
decreases-node_in l = 3 * l.most

abbrev pub decreases-body_in : goal.decreases-body_in
decreases-body_in l = 3 * l.most + 2

abbrev pub decreases-children_in : goal.decreases-children_in
decreases-children_in l = 3 * l.most + 1

abbrev pub decreases-inner_in : goal.decreases-inner_in
decreases-inner_in l = 3 * l.most + 1

abbrev pub invariant-children_in-parts : goal.invariant-children_in-parts
invariant-children_in-parts l = (trees : Trees) → HasChildren (stored_by in_row l.tables) l.part.message l.part.path 1 trees → levels_of trees ≤ l.most → AreHalfway l.tables l.part.message l.part.path l.most trees l.children.items (1 + length l.children.items)

abbrev pub decreases-children_in-parts : goal.decreases-children_in-parts
decreases-children_in-parts l = 2 ^ 64 - length l.children.items
