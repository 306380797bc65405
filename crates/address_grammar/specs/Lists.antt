-- Lists of addresses and groups (RFC 5322 §3.4), by their places.
use Rattle.std.specs.Prelude.{ℕ, false, ◌&&◌, not, if◌then◌else◌, List, [], ◌∷◌, ◌++◌, Option, Some, None}
use Rattle.mime_tree.specs.declared.values.Item.{Item}
use Rattle.mime_tree.specs.declared.values.Item.TheVariants.{Group, GroupEnd}
use Rattle.address_grammar.specs.declared.pieces.Piece.{Piece}
use Rattle.address_grammar.specs.declared.places.Ending.TheVariants.{AtComma, AtColon, AtSemicolon, AtEnd}
use Rattle.address_grammar.specs.Pieces.{pieces}
use Rattle.address_grammar.specs.Places.{Place, places}
use Rattle.address_grammar.specs.Places.Place.{place}
use Rattle.address_grammar.specs.Words.{are_gaps, is_phrase, name_of}
use Rattle.address_grammar.specs.Addresses.{address}

-- Items in front of others, where both are there.
abbrev pub then_items : Option (List Item) → Option (List Item) → Option (List Item)
then_items (Some items) (Some more) = Some (items ++ more)
then_items (Some items) None = None
then_items None more = None

abbrev pub one_item : Option Item → Option (List Item)
one_item None = None
one_item (Some item) = Some (item ∷ [])

-- What a place gives that is an address or empty.
abbrev pub address_or_none : List Piece → Option (List Item)
address_or_none ps = if are_gaps ps then Some [] else one_item (address ps)

-- The beginning of a group, whose name is a phrase that isn't empty.
abbrev pub group_begun : List Piece → Option (List Item)
group_begun ps = if is_phrase ps && not (are_gaps ps) then Some (Group (name_of ps) ∷ []) else None

-- Nothing but white space and comments.
abbrev pub nothing : List Piece → Option (List Item)
nothing ps = if are_gaps ps then Some [] else None

abbrev mutual
  -- The items of the places from one on that stands in no group. Commas stand between items, and empty places are skipped.
  pub list : List Place → Option (List Item)
  list [] = None
  list (place ps AtComma ∷ rest) = then_items (address_or_none ps) (list rest)
  list (place ps AtColon ∷ rest) = then_items (group_begun ps) (members rest)
  list (place ps AtSemicolon ∷ rest) = None
  list (place ps AtEnd ∷ rest) = address_or_none ps

  -- The same in a group: addresses or none, up to a semicolon.
  pub members : List Place → Option (List Item)
  members [] = None
  members (place ps AtComma ∷ rest) = then_items (address_or_none ps) (members rest)
  members (place ps AtColon ∷ rest) = None
  members (place ps AtSemicolon ∷ rest) = then_items (address_or_none ps) (then_items (Some (GroupEnd ∷ [])) (behind_group rest))
  members (place ps AtEnd ∷ rest) = None

  -- The same right behind a group: a comma, or the value's end.
  pub behind_group : List Place → Option (List Item)
  behind_group [] = None
  behind_group (place ps AtComma ∷ rest) = then_items (nothing ps) (list rest)
  behind_group (place ps AtColon ∷ rest) = None
  behind_group (place ps AtSemicolon ∷ rest) = None
  behind_group (place ps AtEnd ∷ rest) = nothing ps

abbrev pub some_items : Option (List Item) → Option (List Item)
some_items None = None
some_items (Some []) = None
some_items (Some (item ∷ items)) = Some (item ∷ items)

abbrev pub items_of : Option (List Piece) → Option (List Item)
items_of None = None
items_of (Some ps) = some_items (list (places false ps))

-- What a value reads as: one item at least.
abbrev pub reading : List ℕ → Option (List Item)
reading value = items_of (pieces value)
