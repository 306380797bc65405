-- Where the parts of a message stand in it, as texts.
use Rattle.std.specs.Prelude.{ℕ, ◌+◌, Bool, nat_eq, List, [], ◌∷◌, ◌++◌, decimal}
use Rattle.std.specs.List.{list_any}
use Rattle.std.specs.Cmp.Lexicographic.{pointwise}
use Rattle.mime_tree.specs.Trees.{Tree, Content, Trees}
use Rattle.mime_tree.specs.Trees.Tree.{node}
use Rattle.mime_tree.specs.Trees.Content.{leaf, multi, nested}
use Rattle.mime_tree.specs.Trees.Trees.{none, more}

-- The path of the part with a number in the part at a path: decimal numbers with dots between, and none for the message itself.
abbrev pub child_path : List ℕ → ℕ → List ℕ
child_path [] n = decimal n
child_path (c ∷ path) n = c ∷ path ++ 46 ∷ decimal n

abbrev mutual
  -- The paths of a tree that stands at a path. The parts of a multipart are numbered from 1, and the message within a part has
  -- the number 0.
  pub paths : List ℕ → Tree → List (List ℕ)
  paths path (node fields content) = path ∷ inner_paths path content

  -- the paths below that of a body's part
  pub inner_paths : List ℕ → Content → List (List ℕ)
  inner_paths path (leaf encoding bytes) = []
  inner_paths path (multi trees) = child_paths path 1 trees
  inner_paths path (nested tree) = paths (child_path path 0) tree

  -- the paths of parts that are numbered from a number on
  pub child_paths : List ℕ → ℕ → Trees → List (List ℕ)
  child_paths path n none = []
  child_paths path n (more tree trees) = paths (child_path path n) tree ++ child_paths path (n + 1) trees

abbrev pub is_path : List ℕ → List ℕ → Bool
is_path path other = pointwise nat_eq path other

-- the path is one of these
abbrev pub is_among : List (List ℕ) → List ℕ → Bool
is_among paths path = list_any (is_path path) paths
