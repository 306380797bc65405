-- One place of a value after another.
use Rattle.std.specs.Prelude.{◌≡◌, Bool, true, false, List, [], ◌∷◌, ◌++◌, Option, Some, None, option_map, if◌then◌else◌}
use Rattle.mime_tree.specs.declared.values.Item.{Item}
use Rattle.mime_tree.specs.declared.values.Item.TheVariants.{GroupEnd}
use Rattle.address_grammar.specs.declared.pieces.Piece.{Piece}
use Rattle.address_grammar.specs.declared.places.Ending.{Ending}
use Rattle.address_grammar.specs.declared.places.Ending.TheVariants.{AtComma, AtColon, AtSemicolon, AtEnd}
use Rattle.address_grammar.specs.declared.items.Within.{Within}
use Rattle.address_grammar.specs.declared.items.Within.TheVariants.{NoGroup, InGroup, BehindGroup, Nothing}
use Rattle.address_grammar.specs.Places.{Place, is_last}
use Rattle.address_grammar.specs.Places.Place.{place}
use Rattle.address_grammar.specs.Lists.{then_items, address_or_none, group_begun, nothing, list, members, behind_group}

-- Items in front of others, if those are there.
abbrev pub ahead_items : List Item → Option (List Item) → Option (List Item)
ahead_items items more = option_map (λ is. items ++ is) more

-- Whether items were appended, or nothing was there to append.
abbrev pub Appends : List Item → List Item → Option (List Item) → Bool → Type 0
Appends old after items fits = ahead_items old items ≡ (if fits then Some after else None)

-- What the place behind one stands in.
abbrev pub next_of : Within → Ending → Option Within
next_of NoGroup AtComma = Some NoGroup
next_of NoGroup AtColon = Some InGroup
next_of NoGroup AtSemicolon = None
next_of NoGroup AtEnd = Some Nothing
next_of InGroup AtComma = Some InGroup
next_of InGroup AtColon = None
next_of InGroup AtSemicolon = Some BehindGroup
next_of InGroup AtEnd = None
next_of BehindGroup AtComma = Some NoGroup
next_of BehindGroup AtColon = None
next_of BehindGroup AtSemicolon = None
next_of BehindGroup AtEnd = Some Nothing
next_of Nothing ending = None

-- What a place gives.
abbrev pub given : Within → Ending → List Piece → Option (List Item)
given NoGroup AtComma ps = address_or_none ps
given NoGroup AtColon ps = group_begun ps
given NoGroup AtSemicolon ps = address_or_none ps
given NoGroup AtEnd ps = address_or_none ps
given InGroup AtComma ps = address_or_none ps
given InGroup AtColon ps = address_or_none ps
given InGroup AtSemicolon ps = then_items (address_or_none ps) (Some (GroupEnd ∷ []))
given InGroup AtEnd ps = address_or_none ps
given BehindGroup ending ps = nothing ps
given Nothing ending ps = address_or_none ps

-- The items of the places that are left.
abbrev pub left_items : Within → List Place → Option (List Item)
left_items NoGroup ps = list ps
left_items InGroup ps = members ps
left_items BehindGroup ps = behind_group ps
left_items Nothing ps = Some []

abbrev pub is_nothing : Within → Bool
is_nothing NoGroup = false
is_nothing InGroup = false
is_nothing BehindGroup = false
is_nothing Nothing = true

-- What is found in a place: its items are appended, and the others are those of the places behind.
pub record IsFound (old after : List Item) (within next : Within) (ps : List Piece) (ending : Ending) : Type 0 where
  pub same : (rest : List Place) → ahead_items old (left_items within (place ps ending ∷ rest)) ≡ ahead_items after (left_items next rest)
  pub last : is_last ending ≡ is_nothing next

abbrev pub IsStep : List Item → List Item → Within → List Piece → Ending → Option Within → Type 0
IsStep old after within ps ending None = (rest : List Place) → left_items within (place ps ending ∷ rest) ≡ None
IsStep old after within ps ending (Some next) = IsFound old after within next ps ending
