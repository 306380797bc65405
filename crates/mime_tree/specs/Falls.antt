-- Each message within a body has fewer nodes than the message that the body is of.
use Rattle.std.specs.Prelude.{◌+◌, ◌≤◌, List, [], ◌∷◌}
use Rattle.std.proofs.Common.{arith}
use denote.Param.Weighed.{most}
use Rattle.mime_tree.specs.declared.trees.Body.{Body}
use Rattle.mime_tree.specs.declared.trees.Body.TheVariants.{Leaf, Multi, Nested}
use Rattle.mime_tree.specs.declared.trees.Message.TheDeep.{deep-Body}
use Rattle.mime_tree.specs.Trees.{Tree}
use Rattle.mime_tree.specs.Contents.{trees_of, content_of}
use Rattle.mime_tree.specs.Sizes.{nodes, nodes_in, nodes_of}

most_le-nodes : (ts : List Tree) → most (λ t. nodes t + 1) ts ≤ nodes_of (trees_of ts) + 1
most_le-nodes [] = omega arith
most_le-nodes (t ∷ ts) = omega (arith, most_le-nodes ts)

pub deep_le-nodes : (body : Body) → deep-Body body ≤ nodes_in (content_of body) + 1
deep_le-nodes (Leaf encoding bytes) = omega arith
deep_le-nodes (Multi messages) = omega (arith, most_le-nodes messages.items)
deep_le-nodes (Nested message) = omega arith
