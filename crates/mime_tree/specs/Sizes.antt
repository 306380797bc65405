-- How large a tree is.
use Rattle.std.specs.Prelude.{ℕ, ◌+◌, max}
use Rattle.mime_tree.specs.Trees.{Tree, Content, Trees}
use Rattle.mime_tree.specs.Trees.Tree.{node}
use Rattle.mime_tree.specs.Trees.Content.{leaf, multi, nested}
use Rattle.mime_tree.specs.Trees.Trees.{none, more}

abbrev mutual
  -- how many messages and parts there are, the message itself included
  pub nodes : Tree → ℕ
  nodes (node fields content) = nodes_in content + 1

  -- how many messages and parts a body has
  pub nodes_in : Content → ℕ
  nodes_in (leaf encoding bytes) = 0
  nodes_in (multi trees) = nodes_of trees
  nodes_in (nested tree) = nodes tree

  -- how many messages and parts there are in a list of parts
  pub nodes_of : Trees → ℕ
  nodes_of none = 0
  nodes_of (more tree trees) = nodes tree + nodes_of trees

abbrev mutual
  -- how many levels of messages and parts there are, the message itself the first
  pub levels : Tree → ℕ
  levels (node fields content) = levels_in content + 1

  -- how many levels a body has
  pub levels_in : Content → ℕ
  levels_in (leaf encoding bytes) = 0
  levels_in (multi trees) = levels_of trees
  levels_in (nested tree) = levels tree

  -- how many levels there are in a list of parts
  pub levels_of : Trees → ℕ
  levels_of none = 0
  levels_of (more tree trees) = max (levels tree) (levels_of trees)
