-- What holds of items.
use Rattle.std.specs.Prelude.{◌≡◌, ℕ, true, false, Bool, List}
use Rattle.std.specs.List.{list_any}
use Rattle.mime_tree.specs.Trees.{Tree}
use Rattle.imap_grammar.specs.declared.items.FetchItem.{FetchItem}
use Rattle.envelope_view.specs.Structure.{fields_of}
use Rattle.fetch_writer.specs.declared.facts.MessageFacts.{MessageFacts}
use Rattle.fetch_writer.specs.Asked.{same_item, told_items, reads_header, reads_body}
use Rattle.fetch_writer.specs.Items.{items_line}

-- How much of a message is told: of two messages that are alike in what the items read, the same is told.
pub record ReadingLaws : Type 0 where
  -- where nothing but the header is read
  pub header : (number : ℕ) (facts : MessageFacts) (a b : Tree) (by_uid : Bool) (items : List FetchItem) (changed : Bool) →
      list_any reads_body items ≡ false → fields_of a ≡ fields_of b →
      items_line number facts a (told_items by_uid items changed) ≡ items_line number facts b (told_items by_uid items changed)
  -- where nothing is read
  pub nothing : (number : ℕ) (facts : MessageFacts) (a b : Tree) (by_uid : Bool) (items : List FetchItem) (changed : Bool) →
      list_any reads_body items ≡ false → list_any reads_header items ≡ false →
      items_line number facts a (told_items by_uid items changed) ≡ items_line number facts b (told_items by_uid items changed)

-- Items are one where they are equal, and else they are two.
pub record SameItems : Type 0 where
  pub equal : (item : FetchItem) → same_item item item ≡ true
  pub one : (item other : FetchItem) → same_item item other ≡ true → item ≡ other
