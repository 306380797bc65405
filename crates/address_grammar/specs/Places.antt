-- The places of a value, between its commas, colons and semicolons. Those between angle brackets don't count: they are a
-- route's (RFC 5322 §4.4).
use Rattle.std.specs.Prelude.{Bool, true, false, List, [], ◌∷◌, Option, Some, None}
use Rattle.address_grammar.specs.declared.pieces.Special.{Special}
use Rattle.address_grammar.specs.declared.pieces.Special.TheVariants.{Comma, Colon, Semicolon, Open, Close, At}
use Rattle.address_grammar.specs.declared.pieces.Piece.{Piece}
use Rattle.address_grammar.specs.declared.pieces.Piece.TheVariants.{Mark}
use Rattle.address_grammar.specs.declared.places.Ending.{Ending}
use Rattle.address_grammar.specs.declared.places.Ending.TheVariants.{AtComma, AtColon, AtSemicolon, AtEnd}

-- Pieces, and how they end.
pub data Place : Type 0 where
  place : List Piece → Ending → Place

-- How a special character ends a place.
abbrev pub ends : Special → Option Ending
ends Comma = Some AtComma
ends Colon = Some AtColon
ends Semicolon = Some AtSemicolon
ends Open = None
ends Close = None
ends At = None

-- How a piece ends a place, outside or within angle brackets.
abbrev pub ending_of : Bool → Piece → Option Ending
ending_of false (Mark special) = ends special
ending_of angled p = None

-- Whether what is behind a piece stands within angle brackets.
abbrev pub angled_behind : Bool → Piece → Bool
angled_behind angled (Mark Open) = true
angled_behind angled (Mark Close) = false
angled_behind angled p = angled

-- A piece in front of the first place.
abbrev pub into_first : Piece → List Place → List Place
into_first p [] = []
into_first p (place ps ending ∷ rest) = place (p ∷ ps) ending ∷ rest

-- A piece that ends a place or belongs to one, in front of the places behind it.
abbrev pub cut : Option Ending → Piece → List Place → List Place
cut None p rest = into_first p rest
cut (Some ending) p rest = place [] ending ∷ rest

-- The places of pieces that stand outside or within angle brackets.
abbrev pub places : Bool → List Piece → List Place
places angled [] = place [] AtEnd ∷ []
places angled (p ∷ ps) = cut (ending_of angled p) p (places (angled_behind angled p) ps)

-- Whether a place is the last.
abbrev pub is_last : Ending → Bool
is_last AtEnd = true
is_last ending = false

-- The places behind one that ends so.
abbrev pub places_behind : Ending → List Piece → List Place
places_behind AtEnd ps = []
places_behind ending ps = places false ps
