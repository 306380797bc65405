-- Light messages fit into rows.
use Rattle.std.proofs.Common.{◌≡◌, ℕ, ◌+◌, ◌*◌, ◌^◌, ◌<◌, ◌≤◌, List, [], ◌∷◌, length, length-append, decimal, Result, Ok, Err, refl, arith}
use Rattle.std.proofs.lemmas.Fmt.{length-decimal-le_succ}
use Rattle.std.specs.List.{AllByRecursion}
use Rattle.mime_tree.specs.declared.values.Field.{Field}
use Rattle.mime_tree.specs.declared.values.Item.{Item}
use Rattle.mime_tree.specs.declared.values.Item.TheVariants.{Address, Group, GroupEnd}
use Rattle.mime_tree.specs.declared.values.Value.{Value}
use Rattle.mime_tree.specs.declared.values.Value.TheVariants.{Text, Addresses, Date, Ids}
use Rattle.mime_tree.specs.Trees.{Tree, Content, Trees}
use Rattle.mime_tree.specs.Trees.Tree.{node}
use Rattle.mime_tree.specs.Trees.Content.{leaf, multi, nested}
use Rattle.mime_tree.specs.Trees.Trees.{none, more}
use Rattle.address_grammar.specs.Weights.{ids_weight, item_weight, weight as items_weight}
use Rattle.mime_tree.specs.declared.reasons.Reason.{Reason}
use Rattle.mime_reader.specs.Reading.{IsMessage, outcome}
use Rattle.mime_reader.specs.Weights.{SizeLaws, value_weight, fields_weight, weight, weight_in, weight_of}
use Rattle.mime_reader.specs.Wrapping.{mail, mail_of, wrapper}
use Rattle.row_tables.specs.Fits.{IsText}
use Rattle.shredder.specs.Paths.{child_path}
use Rattle.shredder.specs.Fitting.{ItemFits, ValueFits, FieldFits, NodeFits, ContentFits, ChildrenFit, TreeFits, count}

-- ---- values

item_fits : (i : Item) → item_weight i ≤ 4294967295 → ItemFits i
item_fits (Address name local domain) h = (omega (arith, h), omega (arith, h), omega (arith, h))
item_fits (Group name) h = omega (arith, h)
item_fits GroupEnd h = tt

items_fit : (items : List Item) → items_weight items ≤ 4294967295 → AllByRecursion ItemFits items
items_fit [] h = tt
items_fit (i ∷ items) h = (item_fits i (omega (arith, h)), items_fit items (omega (arith, h)))

item_counts : (i : Item) → 1 ≤ item_weight i
item_counts (Address name local domain) = omega arith
item_counts (Group name) = omega arith
item_counts GroupEnd = omega arith

items_count : (items : List Item) → length items ≤ items_weight items
items_count [] = omega arith
items_count (i ∷ items) = omega (arith, item_counts i, items_count items)

ids_fit : (ids : List (List ℕ)) → ids_weight ids ≤ 4294967295 → AllByRecursion IsText ids
ids_fit [] h = tt
ids_fit (i ∷ ids) h = (omega (arith, h), ids_fit ids (omega (arith, h)))

ids_count : (ids : List (List ℕ)) → length ids ≤ ids_weight ids
ids_count [] = omega arith
ids_count (i ∷ ids) = omega (arith, ids_count ids)

value_fits : (v : Value) → value_weight v ≤ 4294967295 → ValueFits v
value_fits (Text text) h = h
value_fits (Addresses items) h = (omega (arith, h, items_count items), items_fit items h)
value_fits (Date date) h = tt
value_fits (Ids ids) h = (omega (arith, h, ids_count ids), ids_fit ids h)

fields_fit : (fields : List Field) → fields_weight fields ≤ 4294967295 → AllByRecursion FieldFits fields
fields_fit [] h = tt
fields_fit (f ∷ fields) h = ((omega (arith, h), value_fits f.value (omega (arith, h))), fields_fit fields (omega (arith, h)))

fields_count : (fields : List Field) → length fields ≤ fields_weight fields
fields_count [] = omega arith
fields_count (f ∷ fields) = omega (arith, fields_count fields)

-- ---- paths

child_longer : (path : List ℕ) (n : ℕ) → n < 2 ^ 64 → length (child_path path n) ≤ length path + n + 2
child_longer [] n lt = omega (arith, length-decimal-le_succ n lt)
child_longer (c ∷ path) n lt = omega (arith, length-append (c ∷ path) (46 ∷ decimal n), length-decimal-le_succ n lt)

counts : (trees : Trees) → count trees ≤ weight_of trees
counts none = omega arith
counts (more tree trees) = omega (arith, counts trees)

-- ---- trees

mutual
  node_fits : (path : List ℕ) (tree : Tree) → length path + 3 * weight tree ≤ 4294967295 → NodeFits path tree
  node_fits path (node fields content) h = (omega (arith, h), omega (arith, h, fields_count fields), fields_fit fields (omega (arith, h)), content_fits path content (omega (arith, h)))

  content_fits : (path : List ℕ) (content : Content) → length path + 3 * weight_in content ≤ 4294967295 → ContentFits path content
  content_fits path (leaf encoding bytes) h = omega (arith, h)
  content_fits path (multi trees) h = (omega (arith, h, counts trees), children_fit path 0 1 trees (omega arith) (omega (arith, h)))
  content_fits path (nested tree) h = node_fits (child_path path 0) tree (omega (arith, h, child_longer path 0 (omega arith)))

  children_fit : (path : List ℕ) (m n : ℕ) (trees : Trees) → n ≤ m + 1 → length path + m + 3 * weight_of trees ≤ 4294967295 → ChildrenFit path n trees
  children_fit path m n none e h = tt
  children_fit path m n (more tree trees) e h = (node_fits (child_path path n) tree (omega (arith, e, h, child_longer path n (omega (arith, e, h)))), children_fit path (m + 1) (n + 1) trees (omega (arith, e)) (omega (arith, h)))

pub light_fits : (tree : Tree) → weight tree < 2 ^ 30 → TreeFits tree
light_fits tree lt = node_fits [] tree (omega (arith, lt))

pub kept_fits : SizeLaws → ((text : List ℕ) (tree : Tree) → outcome text ≡ Ok tree → IsMessage text tree) → (bytes : List ℕ) (now : ℕ) → length bytes ≤ 2 ^ 27 → TreeFits (mail bytes now).message
kept_fits sizes exact bytes now le = by (outcome bytes) refl
  where
    by : (o : Result Tree Reason) → outcome bytes ≡ o → TreeFits (mail_of bytes now o).message
    by (Ok tree) e = light_fits tree (omega (arith, le, sizes.read bytes tree (exact bytes tree e)))
    by (Err reason) e = light_fits (wrapper bytes reason now) (omega (arith, le, sizes.wrapped bytes reason now))
