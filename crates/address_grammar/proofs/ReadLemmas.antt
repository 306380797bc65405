-- What a value reads as by the grammar is what its pieces and places give.
use Rattle.std.proofs.Common.{◌≡◌, ℕ, false, List, [], ◌∷◌, Option, Some, None, refl, sym, ◌∙◌, ap}
use Rattle.mime_tree.specs.declared.values.Item.{Item}
use Rattle.address_grammar.specs.declared.pieces.Piece.{Piece}
use Rattle.address_grammar.specs.Pieces.{pieces}
use Rattle.address_grammar.specs.Places.{places}
use Rattle.address_grammar.specs.Lists.{list, some_items, items_of, reading}
use Rattle.address_grammar.specs.Grammar.{Reads, IsReadingOf}
use Rattle.address_grammar.proofs.SpelledPieces.{pieces_of_text}
use Rattle.address_grammar.proofs.TextLemmas.{text_of_pieces}
use Rattle.address_grammar.proofs.SoundLists.{list_is_list}
use Rattle.address_grammar.proofs.CompleteLemmas.{list_of_list}

some_given : (items : List Item) → (items ≡ [] → ⊥) → some_items (Some items) ≡ Some items
some_given [] some = absurd (some refl)
some_given (item ∷ items) some = refl

pub reading_of : (value : List ℕ) (items : List Item) → Reads value items → reading value ≡ Some items
reading_of value items r =
    ap items_of (pieces_of_text r.pieces value r.spelled) ∙ ap some_items (list_of_list r.pieces items r.is_list) ∙ some_given items r.some

some_found : (v : Option (List Item)) (items : List Item) → some_items v ≡ Some items → (v ≡ Some items) × (items ≡ [] → ⊥)
some_found None items e = absurd (cc)
some_found (Some []) items e = absurd (cc)
some_found (Some (first ∷ more)) items e = let same : first ∷ more ≡ items = cc in (ap Some same, λ none. absurd (cc))

of_pieces : (value : List ℕ) (ps : Option (List Piece)) (items : List Item) → pieces value ≡ ps → items_of ps ≡ Some items → Reads value items
of_pieces value None items is e = absurd (cc)
of_pieces value (Some ps) items is e =
    let found = some_found (list (places false ps)) items e in
    record { pieces = ps; spelled = text_of_pieces value ps is; is_list = list_is_list ps items found.0; some = found.1 }

pub reads : (value : List ℕ) (items : List Item) → reading value ≡ Some items → Reads value items
reads value items e = of_pieces value (pieces value) items refl e

pub reading_is : (value : List ℕ) (r : Option (List Item)) → r ≡ reading value → IsReadingOf value r
reading_is value None e = λ items s. let two : None ≡ Some items = e ∙ reading_of value items s in absurd (cc)
reading_is value (Some items) e = (
  reads value items (sym e),
  λ others s. let same : Some items ≡ Some others = e ∙ reading_of value others s in let one : items ≡ others = cc in sym one,
)
