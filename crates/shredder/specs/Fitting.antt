-- Which messages have rows: each text, each path and each list has a length of 32 bits.
use Rattle.std.specs.Prelude.{ℕ, ◌+◌, ◌≤◌, List, [], length}
use Rattle.std.specs.List.{AllByRecursion}
use Rattle.mime_tree.specs.declared.values.Field.{Field}
use Rattle.mime_tree.specs.declared.values.Item.{Item}
use Rattle.mime_tree.specs.declared.values.Item.TheVariants.{Address, Group, GroupEnd}
use Rattle.mime_tree.specs.declared.values.Value.{Value}
use Rattle.mime_tree.specs.declared.values.Value.TheVariants.{Text, Addresses, Date, Ids}
use Rattle.mime_tree.specs.Trees.{Tree, Content, Trees}
use Rattle.mime_tree.specs.Trees.Tree.{node}
use Rattle.mime_tree.specs.Trees.Content.{leaf, multi, nested}
use Rattle.mime_tree.specs.Trees.Trees.{none, more}
use Rattle.row_tables.specs.Fits.{IsText}
use Rattle.shredder.specs.Paths.{child_path}

abbrev pub IsShort : {X : Type 0} → List X → Type 0
IsShort list = length list ≤ 4294967295

abbrev pub ItemFits : Item → Type 0
ItemFits (Address name local domain) = IsText name × IsText local × IsText domain
ItemFits (Group name) = IsText name
ItemFits GroupEnd = Unit {0}

abbrev pub ValueFits : Value → Type 0
ValueFits (Text value) = IsText value
ValueFits (Addresses items) = IsShort items × AllByRecursion ItemFits items
ValueFits (Date date) = Unit {0}
ValueFits (Ids ids) = IsShort ids × AllByRecursion IsText ids

abbrev pub FieldFits : Field → Type 0
FieldFits f = IsText f.name × ValueFits f.value

-- how many parts there are
abbrev pub count : Trees → ℕ
count none = 0
count (more tree trees) = count trees + 1

abbrev mutual
  -- The message or part fits where it stands at the path.
  pub NodeFits : List ℕ → Tree → Type 0
  NodeFits path (node fields content) = IsText path × IsShort fields × AllByRecursion FieldFits fields × ContentFits path content

  pub ContentFits : List ℕ → Content → Type 0
  ContentFits path (leaf encoding bytes) = IsText bytes
  ContentFits path (multi trees) = (count trees ≤ 4294967295) × ChildrenFit path 1 trees
  ContentFits path (nested tree) = NodeFits (child_path path 0) tree

  pub ChildrenFit : List ℕ → ℕ → Trees → Type 0
  ChildrenFit path n none = Unit {0}
  ChildrenFit path n (more tree trees) = NodeFits (child_path path n) tree × ChildrenFit path (n + 1) trees

abbrev pub TreeFits : Tree → Type 0
TreeFits tree = NodeFits [] tree
