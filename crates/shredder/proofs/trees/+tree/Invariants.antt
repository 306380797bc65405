use Rattle.std.proofs.Common.{◌+◌, ◌*◌, ◌≡◌, take}
use Rattle.mime_tree.specs.Contents.{content_of, trees_of}
use Rattle.mime_tree.specs.Sizes.{nodes, nodes_in, nodes_of}
use Rattle.row_tables.specs.TableRows.{TableRows}
use Rattle.shredder.specs.Paths.{child_paths}
use Rattle.shredder.specs.Making.{Among, Between, IsOpenFrom, IsReady, IsSameStore, Leads, holding}
use Rattle.shredder.proofs.TreeSteps.{HasFirst}
use Rattle.shredder.proofs.trees.+tree.Given as goal

abbrev pub decreases-add_node : goal.decreases-add_node
decreases-add_node g l = 3 * nodes l.node.now

abbrev pub decreases-add_inside : goal.decreases-add_inside
decreases-add_inside g l = 3 * nodes_in (content_of l.body.now) + 2

abbrev pub decreases-add_children : goal.decreases-add_children
decreases-add_children g l = 3 * nodes_of (trees_of l.parts.now) + 1

abbrev pub invariant-add_children-loop-number : goal.invariant-add_children-loop-number
invariant-add_children-loop-number g l =
    IsSameStore l.fn.store l.store × IsReady l.store
    × ((t now : TableRows) → t ≡ l.fn.store.tables → Between l.message t (holding l.fn.shared.added l.fn.store.placed) now → IsOpenFrom now l.message l.path 0
    → Leads l.message t now (holding l.fn.shared.added l.fn.store.placed) l.fn.changes.items (Among (child_paths l.path 1 (trees_of l.parts))) (λ after. HasFirst after l.message l.path (take l.number l.parts)) (holding l.shared.added l.store.placed) l.changes.items)
