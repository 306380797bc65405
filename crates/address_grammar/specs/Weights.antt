-- How much of a text the items and ids that it reads as can take.
use Rattle.std.specs.Prelude.{◌≡◌, ℕ, ◌+◌, ◌*◌, ◌≤◌, List, [], ◌∷◌, length, Some}
use Rattle.mime_tree.specs.declared.values.Item.{Item}
use Rattle.mime_tree.specs.declared.values.Item.TheVariants.{Address, Group, GroupEnd}
use Rattle.address_grammar.specs.Lists.{reading}
use Rattle.address_grammar.specs.Ids.{ids_reading}

-- One for an item, and the lengths of its texts.
abbrev pub item_weight : Item → ℕ
item_weight (Address name local domain) = length name + length local + length domain + 1
item_weight (Group name) = length name + 1
item_weight GroupEnd = 1

abbrev pub weight : List Item → ℕ
weight [] = 0
weight (item ∷ items) = item_weight item + weight items

-- One for each id, and its length.
abbrev pub ids_weight : List (List ℕ) → ℕ
ids_weight [] = 0
ids_weight (id ∷ ids) = length id + 1 + ids_weight ids

pub record WeightLaws : Type 0 where
  -- Items weigh no more than the text that they are read from.
  pub items : (text : List ℕ) (items : List Item) → reading text ≡ Some items → weight items ≤ length text
  -- Ids have three bytes at least, so they weigh no more than twice their text.
  pub ids : (text : List ℕ) (ids : List (List ℕ)) → ids_reading text ≡ Some ids → ids_weight ids ≤ 2 * length text
