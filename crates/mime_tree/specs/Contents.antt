-- What the types of a message in a program stand for.
use Rattle.std.specs.Prelude.{List, [], ◌∷◌}
use Rattle.mime_tree.specs.declared.trees.Body.{Body}
use Rattle.mime_tree.specs.declared.trees.Body.TheVariants.{Leaf, Multi, Nested}
use Rattle.mime_tree.specs.Trees.{Tree, Content, Trees}
use Rattle.mime_tree.specs.Trees.Content.{leaf, multi, nested}
use Rattle.mime_tree.specs.Trees.Trees.{none, more}

-- a list of parts
abbrev pub trees_of : List Tree → Trees
trees_of [] = none
trees_of (t ∷ ts) = more t (trees_of ts)

-- the body as a part of the tree
abbrev pub content_of : Body → Content
content_of (Leaf encoding bytes) = leaf encoding bytes
content_of (Multi messages) = multi (trees_of messages.items)
content_of (Nested message) = nested message.value
