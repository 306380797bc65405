-- Items that were read can be printed: each group ends, and domains are runs or literals.
use Rattle.std.proofs.Common.{◌≡◌, ℕ, Bool, true, false, ◌&&◌, ◌||◌, not, List, [], ◌∷◌, Option, Some, None, refl, subst}
use Rattle.std.proofs.lemmas.Bool.{cond_both, and_parts, and_from, or_left, or_right}
use Rattle.mime_tree.specs.declared.values.Item.{Item}
use Rattle.mime_tree.specs.declared.values.Item.TheVariants.{Address, Group, GroupEnd}
use Rattle.address_grammar.specs.declared.pieces.Special.{Special}
use Rattle.address_grammar.specs.declared.pieces.Special.TheVariants.{Comma, Colon, Semicolon, Open, Close, At}
use Rattle.address_grammar.specs.declared.pieces.Piece.{Piece}
use Rattle.address_grammar.specs.declared.pieces.Piece.TheVariants.{Run, Quoted, Comment, Literal, Mark, Blank}
use Rattle.address_grammar.specs.declared.places.Ending.{Ending}
use Rattle.address_grammar.specs.declared.places.Ending.TheVariants.{AtComma, AtColon, AtSemicolon, AtEnd}
use Rattle.address_grammar.specs.Pieces.{pieces}
use Rattle.address_grammar.specs.Places.{Place, ending_of, angled_behind, into_first, cut, places}
use Rattle.address_grammar.specs.Places.Place.{place}
use Rattle.address_grammar.specs.Words.{is_gap, is_wordlike, are_gaps, bare, is_phrase, name_of, comment_name, comments, ending_gaps, local_of, domain_of, is_domain}
use Rattle.address_grammar.specs.Addresses.{AddrSpec, front_phrase, behind_phrase, begins_angle, angled, alone, closed, is_close, addr, both, behind_route, addr_behind, routed_addr, address}
use Rattle.address_grammar.specs.Addresses.AddrSpec.{addr_spec}
use Rattle.address_grammar.specs.Lists.{then_items, one_item, address_or_none, group_begun, nothing, list, members, behind_group, some_items, items_of, reading}
use Rattle.address_grammar.specs.Spelling.{is_run}
use Rattle.address_grammar.proofs.GoodLemmas.{is_literal, is_good, are_good, AllGood, pieces_good}
use Rattle.address_grammar.proofs.PrintedItems.{is_domain_text, are_good_items}
use Rattle.address_grammar.proofs.PrintedLists.{is_list, is_members}

-- What is read of good pieces has a good domain.
abbrev pub GoodAddr : Option AddrSpec → Type 0
GoodAddr None = Unit {0}
GoodAddr (Some (addr_spec local domain rest)) = is_domain_text domain ≡ true

abbrev pub GoodAddress : Option Item → Type 0
GoodAddress None = Unit {0}
GoodAddress (Some (Address name local domain)) = is_domain_text domain ≡ true
GoodAddress (Some (Group name)) = ⊥
GoodAddress (Some GroupEnd) = ⊥

bare_good : (ps : List Piece) → are_good ps ≡ true → are_good (bare ps) ≡ true
bare_good [] h = refl
bare_good (p ∷ ps) h =
    let parts = and_parts (is_good p) (are_good ps) h in
    cond_both (is_gap p) (bare ps) (p ∷ bare ps) (λ qs. are_good qs ≡ true) (λ _. bare_good ps parts.1) (λ _. and_from (is_good p) (are_good (bare ps)) parts.0 (bare_good ps parts.1))

behind_good : (ps : List Piece) → are_good ps ≡ true → are_good (behind_phrase ps) ≡ true
behind_good [] h = refl
behind_good (p ∷ ps) h =
    let parts = and_parts (is_good p) (are_good ps) h in
    cond_both (is_gap p || is_wordlike p) (behind_phrase ps) (p ∷ ps) (λ qs. are_good qs ≡ true) (λ _. behind_good ps parts.1) (λ _. h)

both_good : (local : Option (List ℕ)) (d : Piece) (rest : List Piece) → is_good d ≡ true → GoodAddr (both local (domain_of d) rest)
both_good None d rest h = tt
both_good (Some local) (Run text) rest h = or_left (is_run text) (is_literal text) h
both_good (Some local) (Literal text) rest h = or_right (is_run text) (is_literal text) h
both_good (Some local) (Quoted text) rest h = tt
both_good (Some local) (Comment text) rest h = tt
both_good (Some local) (Mark special) rest h = tt
both_good (Some local) Blank rest h = tt

addr_three : (l d : Piece) (special : Special) (rest : List Piece) → is_good d ≡ true → GoodAddr (addr (l ∷ Mark special ∷ d ∷ rest))
addr_three l d At rest h = both_good (local_of l) d rest h
addr_three l d Comma rest h = tt
addr_three l d Colon rest h = tt
addr_three l d Semicolon rest h = tt
addr_three l d Open rest h = tt
addr_three l d Close rest h = tt

addr_good : (ps : List Piece) → are_good ps ≡ true → GoodAddr (addr ps)
addr_good [] h = tt
addr_good (l ∷ []) h = tt
addr_good (l ∷ Mark At ∷ []) h = tt
addr_good (l ∷ Mark Comma ∷ []) h = tt
addr_good (l ∷ Mark Colon ∷ []) h = tt
addr_good (l ∷ Mark Semicolon ∷ []) h = tt
addr_good (l ∷ Mark Open ∷ []) h = tt
addr_good (l ∷ Mark Close ∷ []) h = tt
addr_good (l ∷ Mark special ∷ d ∷ rest) h =
    let first = and_parts (is_good l) (are_good (d ∷ rest)) h in
    addr_three l d special rest (and_parts (is_good d) (are_good rest) first.1).0
addr_good (l ∷ Run text ∷ rest) h = tt
addr_good (l ∷ Quoted text ∷ rest) h = tt
addr_good (l ∷ Comment text ∷ rest) h = tt
addr_good (l ∷ Literal text ∷ rest) h = tt
addr_good (l ∷ Blank ∷ rest) h = tt

route_good : (ps : List Piece) → are_good ps ≡ true → AllGood (behind_route ps)
route_good (d ∷ Mark Colon ∷ rest) h =
    let first = and_parts (is_good d) (are_good rest) h in
    cond_both (is_domain d) (Some rest) None AllGood (λ _. first.1) (λ _. tt)
route_good (d ∷ Mark Comma ∷ Mark At ∷ rest) h =
    let first = and_parts (is_good d) (are_good rest) h in
    cond_both (is_domain d) (behind_route rest) None AllGood (λ _. route_good rest first.1) (λ _. tt)
route_good ps h = tt

addr_behind_good : (ps : Option (List Piece)) → AllGood ps → GoodAddr (addr_behind ps)
addr_behind_good None h = tt
addr_behind_good (Some ps) h = addr_good ps h

routed_good : (ps : List Piece) → are_good ps ≡ true → GoodAddr (routed_addr ps)
routed_good (Mark At ∷ ps) h = addr_behind_good (behind_route ps) (route_good ps h)
routed_good ps h = addr_good ps h

closed_good : (name : List ℕ) (a : Option AddrSpec) → GoodAddr a → GoodAddress (closed name a)
closed_good name None h = tt
closed_good name (Some (addr_spec local domain rest)) h = cond_both (is_close rest) (Some (Address name local domain)) None GoodAddress (λ _. h) (λ _. tt)

alone_good : (name : List ℕ) (a : Option AddrSpec) → GoodAddr a → GoodAddress (alone name a)
alone_good name None h = tt
alone_good name (Some (addr_spec local domain [])) h = h
alone_good name (Some (addr_spec local domain (p ∷ ps))) h = tt

angled_good : (name : List ℕ) (ps : List Piece) → are_good ps ≡ true → GoodAddress (angled name ps)
angled_good name (Mark Open ∷ ps) h = closed_good name (routed_addr ps) (routed_good ps h)
angled_good name ps h = tt

address_good : (ps : List Piece) → are_good ps ≡ true → GoodAddress (address ps)
address_good ps h =
    let within = angled (name_of (front_phrase ps)) (bare (behind_phrase ps)) in
    let bare_one = alone (comment_name (comments (ending_gaps ps))) (addr (bare ps)) in
    cond_both (begins_angle (behind_phrase ps)) within bare_one GoodAddress
    (λ _. angled_good (name_of (front_phrase ps)) (bare (behind_phrase ps)) (bare_good (behind_phrase ps) (behind_good ps h)))
    (λ _. alone_good (comment_name (comments (ending_gaps ps))) (addr (bare ps)) (addr_good (bare ps) (bare_good ps h)))

-- Places

abbrev pub are_good_places : List Place → Bool
are_good_places [] = true
are_good_places (place ps ending ∷ rest) = are_good ps && are_good_places rest

into_good : (p : Piece) (rest : List Place) → is_good p ≡ true → are_good_places rest ≡ true → are_good_places (into_first p rest) ≡ true
into_good p [] is h = refl
into_good p (place ps ending ∷ rest) is h =
    let parts = and_parts (are_good ps) (are_good_places rest) h in
    and_from (is_good p && are_good ps) (are_good_places rest) (and_from (is_good p) (are_good ps) is parts.0) parts.1

cut_good : (ending : Option Ending) (p : Piece) (rest : List Place) → is_good p ≡ true → are_good_places rest ≡ true → are_good_places (cut ending p rest) ≡ true
cut_good None p rest is h = into_good p rest is h
cut_good (Some ending) p rest is h = h

places_good : (angled : Bool) (ps : List Piece) → are_good ps ≡ true → are_good_places (places angled ps) ≡ true
places_good angled [] h = refl
places_good angled (p ∷ ps) h =
    let parts = and_parts (is_good p) (are_good ps) h in
    cut_good (ending_of angled p) p (places (angled_behind angled p) ps) parts.0 (places_good (angled_behind angled p) ps parts.1)

-- Lists

abbrev pub GoodOne : Option (List Item) → Type 0
GoodOne None = Unit {0}
GoodOne (Some []) = Unit {0}
GoodOne (Some (Address name local domain ∷ [])) = is_domain_text domain ≡ true
GoodOne (Some items) = ⊥

abbrev pub GoodList : (List Item → Bool) → Option (List Item) → Type 0
GoodList shape None = Unit {0}
GoodList shape (Some items) = (are_good_items items ≡ true) × (shape items ≡ true)

one_good : (item : Option Item) → GoodAddress item → GoodOne (one_item item)
one_good None h = tt
one_good (Some (Address name local domain)) h = h
one_good (Some (Group name)) h = absurd h
one_good (Some GroupEnd) h = absurd h

address_or_none_good : (ps : List Piece) → are_good ps ≡ true → GoodOne (address_or_none ps)
address_or_none_good ps h = cond_both (are_gaps ps) (Some []) (one_item (address ps)) GoodOne (λ _. tt) (λ _. one_good (address ps) (address_good ps h))

then_list : (v w : Option (List Item)) → GoodOne v → GoodList is_list w → GoodList is_list (then_items v w)
then_list None w one h = tt
then_list (Some []) None one h = tt
then_list (Some []) (Some items) one h = h
then_list (Some (Address name local domain ∷ [])) None one h = tt
then_list (Some (Address name local domain ∷ [])) (Some items) one h = (and_from (is_domain_text domain) (are_good_items items) one h.0, h.1)
then_list (Some (Address name local domain ∷ b ∷ more)) w one h = absurd one
then_list (Some (Group name ∷ more)) w one h = absurd one
then_list (Some (GroupEnd ∷ more)) w one h = absurd one

then_members : (v w : Option (List Item)) → GoodOne v → GoodList is_members w → GoodList is_members (then_items v w)
then_members None w one h = tt
then_members (Some []) None one h = tt
then_members (Some []) (Some items) one h = h
then_members (Some (Address name local domain ∷ [])) None one h = tt
then_members (Some (Address name local domain ∷ [])) (Some items) one h = (and_from (is_domain_text domain) (are_good_items items) one h.0, h.1)
then_members (Some (Address name local domain ∷ b ∷ more)) w one h = absurd one
then_members (Some (Group name ∷ more)) w one h = absurd one
then_members (Some (GroupEnd ∷ more)) w one h = absurd one

then_end : (w : Option (List Item)) → GoodList is_list w → GoodList is_members (then_items (Some (GroupEnd ∷ [])) w)
then_end None h = tt
then_end (Some items) h = h

then_group : (ps : List Piece) (w : Option (List Item)) → GoodList is_members w → GoodList is_list (then_items (group_begun ps) w)
then_group ps None h = cond_both (is_phrase ps && not (are_gaps ps)) (Some (Group (name_of ps) ∷ [])) None (λ v. GoodList is_list (then_items v None)) (λ _. tt) (λ _. tt)
then_group ps (Some items) h =
    cond_both (is_phrase ps && not (are_gaps ps)) (Some (Group (name_of ps) ∷ [])) None (λ v. GoodList is_list (then_items v (Some items))) (λ _. h) (λ _. tt)

then_nothing : (ps : List Piece) (w : Option (List Item)) → GoodList is_list w → GoodList is_list (then_items (nothing ps) w)
then_nothing ps None h = cond_both (are_gaps ps) (Some []) None (λ v. GoodList is_list (then_items v None)) (λ _. tt) (λ _. tt)
then_nothing ps (Some items) h = cond_both (are_gaps ps) (Some []) None (λ v. GoodList is_list (then_items v (Some items))) (λ _. h) (λ _. tt)

one_list : (v : Option (List Item)) → GoodOne v → GoodList is_list v
one_list None one = tt
one_list (Some []) one = (refl, refl)
one_list (Some (Address name local domain ∷ [])) one = (and_from (is_domain_text domain) true one refl, refl)
one_list (Some (Address name local domain ∷ b ∷ more)) one = absurd one
one_list (Some (Group name ∷ more)) one = absurd one
one_list (Some (GroupEnd ∷ more)) one = absurd one

record GoodPlaces (rest : List Place) : Type 0 where
  outside : GoodList is_list (list rest)
  inside : GoodList is_members (members rest)
  behind : GoodList is_list (behind_group rest)

lists_good : (qs : List Place) → are_good_places qs ≡ true → GoodPlaces qs
lists_good [] h = record { outside = tt; inside = tt; behind = tt }
lists_good (place ps AtComma ∷ rest) h =
    let parts = and_parts (are_good ps) (are_good_places rest) h in
    let r = lists_good rest parts.1 in
    record {
      outside = then_list (address_or_none ps) (list rest) (address_or_none_good ps parts.0) r.outside;
      inside = then_members (address_or_none ps) (members rest) (address_or_none_good ps parts.0) r.inside;
      behind = then_nothing ps (list rest) r.outside;
    }
lists_good (place ps AtColon ∷ rest) h =
    let parts = and_parts (are_good ps) (are_good_places rest) h in
    let r = lists_good rest parts.1 in
    record { outside = then_group ps (members rest) r.inside; inside = tt; behind = tt }
lists_good (place ps AtSemicolon ∷ rest) h =
    let parts = and_parts (are_good ps) (are_good_places rest) h in
    let r = lists_good rest parts.1 in
    record {
      outside = tt;
      inside = then_members (address_or_none ps) (then_items (Some (GroupEnd ∷ [])) (behind_group rest)) (address_or_none_good ps parts.0) (then_end (behind_group rest) r.behind);
      behind = tt;
    }
lists_good (place ps AtEnd ∷ rest) h =
    let parts = and_parts (are_good ps) (are_good_places rest) h in
    record {
      outside = one_list (address_or_none ps) (address_or_none_good ps parts.0);
      inside = tt;
      behind = cond_both (are_gaps ps) (Some []) None (GoodList is_list) (λ _. (refl, refl)) (λ _. tt);
    }

-- What a value reads as.
pub record IsReading (items : List Item) : Type 0 where
  pub some : items ≡ [] → ⊥
  pub good : are_good_items items ≡ true
  pub whole : is_list items ≡ true

some_reading : (v : Option (List Item)) (items : List Item) → GoodList is_list v → some_items v ≡ Some items → IsReading items
some_reading None items h e = absurd (cc)
some_reading (Some []) items h e = absurd (cc)
some_reading (Some (first ∷ more)) items h e =
    let same : first ∷ more ≡ items = cc in
    subst IsReading same (record { some = λ none. absurd (cc); good = h.0; whole = h.1 })

of_pieces : (ps : Option (List Piece)) (items : List Item) → AllGood ps → items_of ps ≡ Some items → IsReading items
of_pieces None items h e = absurd (cc)
of_pieces (Some ps) items h e = some_reading (list (places false ps)) items (lists_good (places false ps) (places_good false ps h)).outside e

pub read_is_good : (value : List ℕ) (items : List Item) → reading value ≡ Some items → IsReading items
read_is_good value items e = of_pieces (pieces value) items (pieces_good value) e
