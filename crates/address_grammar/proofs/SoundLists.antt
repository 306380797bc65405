-- The items of places are those of an address list.
use Rattle.std.proofs.Common.{◌≡◌, ℕ, suc, Bool, true, false, ◌&&◌, not, List, [], ◌∷◌, ◌++◌, Option, Some, None, refl, sym, ◌∙◌, ap, subst, ◌⊎◌, inl, inr}
use Rattle.std.proofs.lemmas.Bool.{cases_Bool, cond-true, cond-false, and_parts, not-true}
use Rattle.std.proofs.lemmas.List.{append_assoc}
use Rattle.mime_tree.specs.declared.values.Item.{Item}
use Rattle.mime_tree.specs.declared.values.Item.TheVariants.{Group, GroupEnd}
use Rattle.address_grammar.specs.declared.pieces.Special.TheVariants.{Comma, Colon, Semicolon, Open, Close, At}
use Rattle.address_grammar.specs.declared.pieces.Piece.{Piece}
use Rattle.address_grammar.specs.declared.pieces.Piece.TheVariants.{Run, Quoted, Comment, Literal, Mark, Blank}
use Rattle.address_grammar.specs.declared.places.Ending.{Ending}
use Rattle.address_grammar.specs.declared.places.Ending.TheVariants.{AtComma, AtColon, AtSemicolon, AtEnd}
use Rattle.address_grammar.specs.Places.{Place, ending_of, angled_behind, into_first, cut, places}
use Rattle.address_grammar.specs.Places.Place.{place}
use Rattle.address_grammar.specs.Words.{are_gaps, is_phrase, name_of}
use Rattle.address_grammar.specs.Lists.{then_items, address_or_none, group_begun, nothing, list, members, behind_group}
use Rattle.address_grammar.specs.Grammar.{AreGaps, IsMember, Separated, IsAddressList}
use Rattle.address_grammar.proofs.SoundLemmas.{member_so}

-- The pieces that places are cut from.
abbrev pub joined : List Place → List Piece
joined [] = []
joined (place ps AtComma ∷ rest) = ps ++ Mark Comma ∷ joined rest
joined (place ps AtColon ∷ rest) = ps ++ Mark Colon ∷ joined rest
joined (place ps AtSemicolon ∷ rest) = ps ++ Mark Semicolon ∷ joined rest
joined (place ps AtEnd ∷ rest) = ps

joined_into : (p : Piece) (qs : List Place) → (qs ≡ [] → ⊥) → joined (into_first p qs) ≡ p ∷ joined qs
joined_into p [] some = absurd (some refl)
joined_into p (place ps AtComma ∷ rest) some = refl
joined_into p (place ps AtColon ∷ rest) some = refl
joined_into p (place ps AtSemicolon ∷ rest) some = refl
joined_into p (place ps AtEnd ∷ rest) some = refl

into_some : (p : Piece) (qs : List Place) → (qs ≡ [] → ⊥) → into_first p qs ≡ [] → ⊥
into_some p [] some = λ e. some refl
into_some p (place ps ending ∷ rest) some = λ e. cc

cut_some : (ending : Option Ending) (p : Piece) (qs : List Place) → (qs ≡ [] → ⊥) → cut ending p qs ≡ [] → ⊥
cut_some None p qs some = into_some p qs some
cut_some (Some ending) p qs some = λ e. cc

places-some : (angled : Bool) (ps : List Piece) → places angled ps ≡ [] → ⊥
places-some angled [] = λ e. cc
places-some angled (p ∷ ps) = cut_some (ending_of angled p) p (places (angled_behind angled p) ps) (places-some (angled_behind angled p) ps)

joined_cut : (angled : Bool) (p : Piece) (qs : List Place) → (qs ≡ [] → ⊥) → joined (cut (ending_of angled p) p qs) ≡ p ∷ joined qs
joined_cut false (Mark Comma) qs some = refl
joined_cut false (Mark Colon) qs some = refl
joined_cut false (Mark Semicolon) qs some = refl
joined_cut false (Mark Open) qs some = joined_into (Mark Open) qs some
joined_cut false (Mark Close) qs some = joined_into (Mark Close) qs some
joined_cut false (Mark At) qs some = joined_into (Mark At) qs some
joined_cut false (Run text) qs some = joined_into (Run text) qs some
joined_cut false (Quoted text) qs some = joined_into (Quoted text) qs some
joined_cut false (Comment text) qs some = joined_into (Comment text) qs some
joined_cut false (Literal text) qs some = joined_into (Literal text) qs some
joined_cut false Blank qs some = joined_into Blank qs some
joined_cut true p qs some = joined_into p qs some

joined-places : (angled : Bool) (ps : List Piece) → joined (places angled ps) ≡ ps
joined-places angled [] = refl
joined-places angled (p ∷ ps) =
    joined_cut angled p (places (angled_behind angled p) ps) (places-some (angled_behind angled p) ps) ∙ ap (λ z. p ∷ z) (joined-places (angled_behind angled p) ps)

-- What may stand behind a group: white space and comments to the end, or to a comma and a list.
abbrev pub IsBehind : List Piece → List Item → Type 0
IsBehind ps items =
    (AreGaps ps × (items ≡ [])) ⊎ ((gaps : List Piece) × (rest : List Piece) × AreGaps gaps × (ps ≡ gaps ++ Mark Comma ∷ rest) × IsAddressList rest items)

-- The addresses of a group up to its semicolon, and what is behind it.
record IsInside (ps : List Piece) (items : List Item) : Type 0 where
  inside : List Piece
  after : List Piece
  found : List Item
  others : List Item
  commas : ℕ
  parts : ps ≡ inside ++ Mark Semicolon ∷ after
  addresses : Separated IsMember commas inside found
  is : items ≡ found ++ GroupEnd ∷ others
  behind : IsBehind after others

-- Two results of which both are there.
record Both (v w : Option (List Item)) (items : List Item) : Type 0 where
  here : List Item
  others : List Item
  first : v ≡ Some here
  second : w ≡ Some others
  is : items ≡ here ++ others

both_there : (v w : Option (List Item)) (items : List Item) → then_items v w ≡ Some items → Both v w items
both_there None w items e = absurd (cc)
both_there (Some here) None items e = absurd (cc)
both_there (Some here) (Some others) items e = let same : here ++ others ≡ items = cc in record { here = here; others = others; first = refl; second = refl; is = sym same }

begun_so : (ps : List Piece) (items : List Item) → group_begun ps ≡ Some items → (is_phrase ps ≡ true) × (are_gaps ps ≡ false) × (items ≡ Group (name_of ps) ∷ [])
begun_so ps items e =
    elim (cases_Bool (is_phrase ps && not (are_gaps ps))) [
      | inl is ↦
          let parts = and_parts (is_phrase ps) (not (are_gaps ps)) is in
          let same : Some (Group (name_of ps) ∷ []) ≡ Some items = sym (cond-true (is_phrase ps && not (are_gaps ps)) (Some (Group (name_of ps) ∷ [])) None is) ∙ e in
          let one : Group (name_of ps) ∷ [] ≡ items = cc in (parts.0, not-true (are_gaps ps) parts.1, sym one)
      | inr isnt ↦ let none : None ≡ Some items = sym (cond-false (is_phrase ps && not (are_gaps ps)) (Some (Group (name_of ps) ∷ [])) None isnt) ∙ e in absurd (cc)
    ]

nothing_so : (ps : List Piece) (items : List Item) → nothing ps ≡ Some items → AreGaps ps × (items ≡ [])
nothing_so ps items e =
    elim (cases_Bool (are_gaps ps)) [
      | inl is ↦
          let same : Some [] ≡ Some items = sym (cond-true (are_gaps ps) (Some []) None is) ∙ e in
          let none : [] ≡ items = cc in (is, sym none)
      | inr isnt ↦ let none : None ≡ Some items = sym (cond-false (are_gaps ps) (Some []) None isnt) ∙ e in absurd (cc)
    ]

-- A group, and what is behind it.
group_so : (ps rest : List Piece) (items others : List Item) → is_phrase ps ≡ true → are_gaps ps ≡ false → IsInside rest others → items ≡ Group (name_of ps) ∷ others →
    IsAddressList (ps ++ Mark Colon ∷ rest) items
group_so ps rest items others phrase some i is =
    elim i.behind [
      | inl none ↦ (
        0,
        inr (record {
          phrase = ps;
          inside = i.inside;
          after = i.after;
          found = i.found;
          commas = i.commas;
          parts = ap (λ z. ps ++ Mark Colon ∷ z) i.parts;
          named = phrase;
          some = some;
          addresses = i.addresses;
          gaps = none.0;
          is = is ∙ ap (λ z. Group (name_of ps) ∷ z) (i.is ∙ ap (λ z. i.found ++ GroupEnd ∷ z) none.1);
        }),
      )
      | inr more ↦
          let gaps = more.0 in
          let behind = more.1 in
          let group = ps ++ Mark Colon ∷ (i.inside ++ Mark Semicolon ∷ gaps) in
          let here = Group (name_of ps) ∷ (i.found ++ GroupEnd ∷ []) in (
            suc (more.4.0),
            (
              group,
              behind,
              here,
              i.others,
              inr (record {
                phrase = ps;
                inside = i.inside;
                after = gaps;
                found = i.found;
                commas = i.commas;
                parts = refl;
                named = phrase;
                some = some;
                addresses = i.addresses;
                gaps = more.2;
                is = refl;
              }),
              ap (λ z. ps ++ Mark Colon ∷ z) (i.parts ∙ ap (λ z. i.inside ++ Mark Semicolon ∷ z) more.3 ∙ sym (append_assoc i.inside (Mark Semicolon ∷ gaps) (Mark Comma ∷ behind)))
                  ∙ sym (append_assoc ps (Mark Colon ∷ (i.inside ++ Mark Semicolon ∷ gaps)) (Mark Comma ∷ behind)),
              is ∙ ap (λ z. Group (name_of ps) ∷ z) (i.is ∙ sym (append_assoc i.found (GroupEnd ∷ []) i.others)),
              more.4.1,
            ),
          )
    ]

record SoundPlaces (qs : List Place) : Type 0 where
  outside : (items : List Item) → list qs ≡ Some items → IsAddressList (joined qs) items
  inside : (items : List Item) → members qs ≡ Some items → IsInside (joined qs) items
  behind : (items : List Item) → behind_group qs ≡ Some items → IsBehind (joined qs) items

-- An address or nothing up to a comma, and what is behind it.
comma_list : (ps : List Piece) (rest : List Place) (items : List Item) → SoundPlaces rest → Both (address_or_none ps) (list rest) items → IsAddressList (ps ++ Mark Comma ∷ joined rest) items
comma_list ps rest items s b =
    let more = s.outside b.others b.second in (suc more.0, (ps, joined rest, b.here, b.others, inl (member_so ps b.here b.first), refl, b.is, more.1))

comma_members : (ps : List Piece) (rest : List Place) (items : List Item) → SoundPlaces rest → Both (address_or_none ps) (members rest) items → IsInside (ps ++ Mark Comma ∷ joined rest) items
comma_members ps rest items s b =
    let i = s.inside b.others b.second in
    record {
      inside = ps ++ Mark Comma ∷ i.inside;
      after = i.after;
      found = b.here ++ i.found;
      others = i.others;
      commas = suc i.commas;
      parts = ap (λ z. ps ++ Mark Comma ∷ z) i.parts ∙ sym (append_assoc ps (Mark Comma ∷ i.inside) (Mark Semicolon ∷ i.after));
      addresses = (ps, i.inside, b.here, i.found, member_so ps b.here b.first, refl, refl, i.addresses);
      is = b.is ∙ ap (λ z. b.here ++ z) i.is ∙ sym (append_assoc b.here i.found (GroupEnd ∷ i.others));
      behind = i.behind;
    }

comma_behind : (ps : List Piece) (rest : List Place) (items : List Item) → SoundPlaces rest → Both (nothing ps) (list rest) items → IsBehind (ps ++ Mark Comma ∷ joined rest) items
comma_behind ps rest items s b =
    let none = nothing_so ps b.here b.first in
    let same : items ≡ b.others = b.is ∙ ap (λ z. z ++ b.others) none.1 in
    inr (ps, joined rest, none.0, refl, subst (IsAddressList (joined rest)) (sym same) (s.outside b.others b.second))

colon_list : (ps : List Piece) (rest : List Place) (items : List Item) → SoundPlaces rest → Both (group_begun ps) (members rest) items → IsAddressList (ps ++ Mark Colon ∷ joined rest) items
colon_list ps rest items s b =
    let begun = begun_so ps b.here b.first in
    group_so ps (joined rest) items b.others begun.0 begun.1 (s.inside b.others b.second) (b.is ∙ ap (λ z. z ++ b.others) begun.2)

semicolon_members : (ps : List Piece) (rest : List Place) (items : List Item) → SoundPlaces rest →
    Both (address_or_none ps) (then_items (Some (GroupEnd ∷ [])) (behind_group rest)) items → IsInside (ps ++ Mark Semicolon ∷ joined rest) items
semicolon_members ps rest items s b =
    let c = both_there (Some (GroupEnd ∷ [])) (behind_group rest) b.others b.second in
    let end : GroupEnd ∷ [] ≡ c.here = let e : Some (GroupEnd ∷ []) ≡ Some c.here = c.first in cc in
    record {
      inside = ps;
      after = joined rest;
      found = b.here;
      others = c.others;
      commas = 0;
      parts = refl;
      addresses = member_so ps b.here b.first;
      is = b.is ∙ ap (λ z. b.here ++ z) (c.is ∙ ap (λ z. z ++ c.others) (sym end));
      behind = s.behind c.others c.second;
    }

sound : (qs : List Place) → SoundPlaces qs
sound [] = record { outside = λ items e. absurd (cc); inside = λ items e. absurd (cc); behind = λ items e. absurd (cc) }
sound (place ps AtComma ∷ rest) =
    let s = sound rest in
    record {
      outside = λ items e. comma_list ps rest items s (both_there (address_or_none ps) (list rest) items e);
      inside = λ items e. comma_members ps rest items s (both_there (address_or_none ps) (members rest) items e);
      behind = λ items e. comma_behind ps rest items s (both_there (nothing ps) (list rest) items e);
    }
sound (place ps AtColon ∷ rest) =
    let s = sound rest in
    record {
      outside = λ items e. colon_list ps rest items s (both_there (group_begun ps) (members rest) items e);
      inside = λ items e. absurd (cc);
      behind = λ items e. absurd (cc);
    }
sound (place ps AtSemicolon ∷ rest) =
    let s = sound rest in
    record {
      outside = λ items e. absurd (cc);
      inside = λ items e. semicolon_members ps rest items s (both_there (address_or_none ps) (then_items (Some (GroupEnd ∷ [])) (behind_group rest)) items e);
      behind = λ items e. absurd (cc);
    }
sound (place ps AtEnd ∷ rest) = record {
  outside = λ items e. (0, inl (member_so ps items e));
  inside = λ items e. absurd (cc);
  behind = λ items e. inl (nothing_so ps items e);
}

pub list_is_list : (ps : List Piece) (items : List Item) → list (places false ps) ≡ Some items → IsAddressList ps items
list_is_list ps items e = subst (λ z. IsAddressList z items) (joined-places false ps) ((sound (places false ps)).outside items e)
