-- The first place of pieces, and what is behind it.
use Rattle.std.proofs.Common.{◌≡◌, ℕ, ◌+◌, ◌<◌, ◌≤◌, Bool, true, false, List, [], ◌∷◌, ◌++◌, length, get_or, take, drop, Some, None, refl, sym, ◌∙◌, ap}
use Rattle.std.proofs.lemmas.List.{drop_more, drop_all, take_more, take_all, append-nil}
use Rattle.address_grammar.specs.declared.pieces.Piece.{Piece}
use Rattle.address_grammar.specs.declared.pieces.Piece.TheVariants.{Run, Quoted, Comment, Literal, Mark, Blank}
use Rattle.address_grammar.specs.declared.pieces.Special.TheVariants.{Comma, Colon, Semicolon, Open, Close, At}
use Rattle.address_grammar.specs.declared.places.Ending.{Ending}
use Rattle.address_grammar.specs.declared.places.Ending.TheVariants.{AtComma, AtColon, AtSemicolon, AtEnd}
use Rattle.address_grammar.specs.Places.{Place, ending_of, angled_behind, into_first, cut, places, places_behind}
use Rattle.address_grammar.specs.Places.Place.{place}

-- Pieces in front of the first place.
abbrev pub in_first : List Piece → List Place → List Place
in_first [] qs = qs
in_first (p ∷ ps) qs = into_first p (in_first ps qs)

pub in_first-more : (ps : List Piece) (p : Piece) (qs : List Place) → in_first (ps ++ p ∷ []) qs ≡ in_first ps (into_first p qs)
in_first-more [] p qs = refl
in_first-more (o ∷ os) p qs = ap (into_first o) (in_first-more os p qs)

pub in_first-place : (ps inner : List Piece) (ending : Ending) (qs : List Place) → in_first ps (place inner ending ∷ qs) ≡ place (ps ++ inner) ending ∷ qs
in_first-place [] inner ending qs = refl
in_first-place (p ∷ ps) inner ending qs = ap (into_first p) (in_first-place ps inner ending qs)

-- The piece at a place, and those behind it.
pub at_piece : (ps : List Piece) (at : ℕ) (p : Piece) → at < length ps → p ≡ get_or ps at p → drop at ps ≡ p ∷ drop (at + 1) ps
at_piece ps at p h is = drop_more ps at p h ∙ ap (λ q. q ∷ drop (at + 1) ps) (sym is)

pub taken_piece : (ps : List Piece) (at : ℕ) (p : Piece) → at < length ps → p ≡ get_or ps at p → take (at + 1) ps ≡ take at ps ++ p ∷ []
taken_piece ps at p h is = take_more ps at p h ∙ ap (λ q. take at ps ++ q ∷ []) (sym is)

pub place_more : (ps : List Piece) (at : ℕ) (p : Piece) (angled behind : Bool) → at < length ps → p ≡ get_or ps at p → ending_of angled p ≡ None → behind ≡ angled_behind angled p →
    places false ps ≡ in_first (take at ps) (places angled (drop at ps)) → places false ps ≡ in_first (take (at + 1) ps) (places behind (drop (at + 1) ps))
place_more ps at p angled behind h is none after so_far =
    let rest = drop (at + 1) ps in
    so_far ∙ ap (λ z. in_first (take at ps) (places angled z)) (at_piece ps at p h is)
    ∙ ap (λ e. in_first (take at ps) (cut e p (places (angled_behind angled p) rest))) none
    ∙ ap (λ b. in_first (take at ps) (into_first p (places b rest))) (sym after)
    ∙ sym (in_first-more (take at ps) p (places behind rest)) ∙ ap (λ z. in_first z (places behind rest)) (sym (taken_piece ps at p h is))

-- A piece that ends a place stands outside of angle brackets, and so does what is behind it.
pub ends_outside : (angled : Bool) (p : Piece) (ending : Ending) (rest : List Piece) → ending_of angled p ≡ Some ending →
    places (angled_behind angled p) rest ≡ places_behind ending rest
ends_outside true (Run text) ending rest e = absurd (cc)
ends_outside true (Quoted text) ending rest e = absurd (cc)
ends_outside true (Comment text) ending rest e = absurd (cc)
ends_outside true (Literal text) ending rest e = absurd (cc)
ends_outside true Blank ending rest e = absurd (cc)
ends_outside true (Mark special) ending rest e = absurd (cc)
ends_outside false (Run text) ending rest e = absurd (cc)
ends_outside false (Quoted text) ending rest e = absurd (cc)
ends_outside false (Comment text) ending rest e = absurd (cc)
ends_outside false (Literal text) ending rest e = absurd (cc)
ends_outside false Blank ending rest e = absurd (cc)
ends_outside false (Mark Comma) ending rest e = let is : AtComma ≡ ending = cc in ap (λ n. places_behind n rest) is
ends_outside false (Mark Colon) ending rest e = let is : AtColon ≡ ending = cc in ap (λ n. places_behind n rest) is
ends_outside false (Mark Semicolon) ending rest e = let is : AtSemicolon ≡ ending = cc in ap (λ n. places_behind n rest) is
ends_outside false (Mark Open) ending rest e = absurd (cc)
ends_outside false (Mark Close) ending rest e = absurd (cc)
ends_outside false (Mark At) ending rest e = absurd (cc)

pub place_ends : (ps : List Piece) (at : ℕ) (p : Piece) (angled : Bool) (ending : Ending) → at < length ps → p ≡ get_or ps at p → ending_of angled p ≡ Some ending →
    places false ps ≡ in_first (take at ps) (places angled (drop at ps)) → places false ps ≡ place (take at ps) ending ∷ places_behind ending (drop (at + 1) ps)
place_ends ps at p angled ending h is some so_far =
    let rest = drop (at + 1) ps in
    so_far ∙ ap (λ z. in_first (take at ps) (places angled z)) (at_piece ps at p h is)
    ∙ ap (λ e. in_first (take at ps) (cut e p (places (angled_behind angled p) rest))) some
    ∙ in_first-place (take at ps) [] ending (places (angled_behind angled p) rest)
    ∙ ap (λ z. place z ending ∷ places (angled_behind angled p) rest) (append-nil (take at ps))
    ∙ ap (λ z. place (take at ps) ending ∷ z) (ends_outside angled p ending rest some)

pub place_all : (ps : List Piece) (at : ℕ) (angled : Bool) → length ps ≤ at → places false ps ≡ in_first (take at ps) (places angled (drop at ps)) → places false ps ≡ place ps AtEnd ∷ []
place_all ps at angled none so_far =
    so_far ∙ ap (λ z. in_first (take at ps) (places angled z)) (drop_all at ps none) ∙ in_first-place (take at ps) [] AtEnd []
    ∙ ap (λ z. place z AtEnd ∷ []) (append-nil (take at ps) ∙ take_all at ps none)
