-- How much there is in a tree: the bytes of all its texts, and one for each field, item, id and part. A date is no text.
use Rattle.std.specs.Prelude.{ℕ, ◌+◌, ◌*◌, ◌≤◌, List, [], ◌∷◌, length}
use Rattle.mime_tree.specs.declared.reasons.Reason.{Reason}
use Rattle.mime_tree.specs.declared.values.Field.{Field}
use Rattle.mime_tree.specs.declared.values.Value.{Value}
use Rattle.mime_tree.specs.declared.values.Value.TheVariants.{Text, Addresses, Date, Ids}
use Rattle.mime_tree.specs.Trees.{Tree, Content, Trees}
use Rattle.mime_tree.specs.Trees.Tree.{node}
use Rattle.mime_tree.specs.Trees.Content.{leaf, multi, nested}
use Rattle.mime_tree.specs.Trees.Trees.{none, more}
use Rattle.address_grammar.specs.Weights.{ids_weight, weight as items_weight}
use Rattle.mime_reader.specs.Reading.{IsMessage}
use Rattle.mime_reader.specs.Wrapping.{wrapper}

abbrev pub value_weight : Value → ℕ
value_weight (Text text) = length text
value_weight (Addresses items) = items_weight items
value_weight (Date date) = 0
value_weight (Ids ids) = ids_weight ids

abbrev pub fields_weight : List Field → ℕ
fields_weight [] = 0
fields_weight (f ∷ fs) = length f.name + value_weight f.value + 1 + fields_weight fs

abbrev mutual
  pub weight : Tree → ℕ
  weight (node fields content) = fields_weight fields + weight_in content

  pub weight_in : Content → ℕ
  weight_in (leaf encoding bytes) = length bytes
  weight_in (multi trees) = weight_of trees
  weight_in (nested tree) = weight tree + 1

  pub weight_of : Trees → ℕ
  weight_of none = 0
  weight_of (more tree trees) = weight tree + 1 + weight_of trees

pub record SizeLaws : Type 0 where
  -- A message is no more than four times its text: a bare LF becomes two bytes, and an id of three bytes weighs four.
  pub read : (text : List ℕ) (tree : Tree) → IsMessage text tree → weight tree ≤ 4 * length text + 4
  -- What stands for bytes is little more than they are.
  pub wrapped : (bytes : List ℕ) (reason : Reason) (now : ℕ) → weight (wrapper bytes reason now) ≤ length bytes + 1000
