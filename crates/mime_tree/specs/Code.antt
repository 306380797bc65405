-- A code of trees as lists, by which proofs tell their values apart: each part stands behind the parts that it is made of.
use Rattle.std.specs.Prelude.{◌≡◌, ℕ, List, [], ◌∷◌, refl}
use Rattle.std.proofs.Common.{◌∙◌}
use Rattle.mime_tree.specs.declared.values.Field.{Field}
use Rattle.mime_tree.specs.declared.trees.Encoding.{Encoding}
use Rattle.mime_tree.specs.declared.trees.Encoding.TheVariants.{Plain}
use Rattle.mime_tree.specs.Trees.{Tree, Content, Trees}
use Rattle.mime_tree.specs.Trees.Tree.{node}
use Rattle.mime_tree.specs.Trees.Content.{leaf, multi, nested}
use Rattle.mime_tree.specs.Trees.Trees.{none, more}

-- A step in the making of a tree.
pub data Token : Type 0 where
  a_leaf : Encoding → List ℕ → Token
  a_node : List Field → Token
  no_parts : Token
  one_more : Token

abbrev mutual
  -- the steps that make a tree, and then the rest
  pub tree_tokens : Tree → List Token → List Token
  tree_tokens (node fields content) rest = content_tokens content (a_node fields ∷ rest)

  pub content_tokens : Content → List Token → List Token
  content_tokens (leaf encoding bytes) rest = a_leaf encoding bytes ∷ rest
  content_tokens (multi trees) rest = trees_tokens trees rest
  content_tokens (nested tree) rest = tree_tokens tree rest

  pub trees_tokens : Trees → List Token → List Token
  trees_tokens none rest = no_parts ∷ rest
  trees_tokens (more tree trees) rest = tree_tokens tree (trees_tokens trees (one_more ∷ rest))

-- a body made a message with these fields
abbrev pub with_fields : List Field → List Content → List Content
with_fields fields [] = []
with_fields fields (content ∷ stack) = nested (node fields content) ∷ stack

-- a message put before the parts
abbrev pub with_part : List Content → List Content
with_part (multi trees ∷ nested tree ∷ stack) = multi (more tree trees) ∷ stack
with_part stack = stack

-- what one step makes of the bodies that are there
abbrev pub made : Token → List Content → List Content
made (a_leaf encoding bytes) stack = leaf encoding bytes ∷ stack
made (a_node fields) stack = with_fields fields stack
made no_parts stack = multi none ∷ stack
made one_more stack = with_part stack

abbrev pub all_made : List Token → List Content → List Content
all_made [] stack = stack
all_made (t ∷ ts) stack = all_made ts (made t stack)

-- the tree that was made
abbrev pub root : List Content → Tree
root (nested tree ∷ stack) = tree
root stack = node [] (leaf Plain [])

mutual
  made-tree : (t : Tree) (rest : List Token) (stack : List Content) → all_made (tree_tokens t rest) stack ≡ all_made rest (nested t ∷ stack)
  made-tree (node fields content) rest stack = made-content content (a_node fields ∷ rest) stack

  made-content : (c : Content) (rest : List Token) (stack : List Content) → all_made (content_tokens c rest) stack ≡ all_made rest (c ∷ stack)
  made-content (leaf encoding bytes) rest stack = refl
  made-content (multi trees) rest stack = made-trees trees rest stack
  made-content (nested tree) rest stack = made-tree tree rest stack

  made-trees : (ts : Trees) (rest : List Token) (stack : List Content) → all_made (trees_tokens ts rest) stack ≡ all_made rest (multi ts ∷ stack)
  made-trees none rest stack = refl
  made-trees (more tree trees) rest stack =
      made-tree tree (trees_tokens trees (one_more ∷ rest)) stack ∙ made-trees trees (one_more ∷ rest) (nested tree ∷ stack)

abbrev pub tokens : Tree → List Token
tokens t = tree_tokens t []

abbrev pub tree_made : List Token → Tree
tree_made ts = root (all_made ts [])

pub tree_made-tokens : (t : Tree) → tree_made (tokens t) ≡ t
tree_made-tokens t = rw (made-tree t [] []) refl
