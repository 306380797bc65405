-- What the grammar gives is what the places of pieces give.
use Rattle.std.proofs.Common.{◌≡◌, ℕ, zero, suc, Bool, true, false, ◌&&◌, ◌||◌, not, List, [], ◌∷◌, ◌++◌, Option, Some, None, refl, sym, ◌∙◌, ap, subst, inl, inr}
use Rattle.std.proofs.lemmas.Bool.{cond_both, cases_Bool, cond-true, cond-false, and_parts, and_from}
use Rattle.std.proofs.lemmas.List.{append-nil, append_assoc}
use Rattle.mime_tree.specs.declared.values.Item.{Item}
use Rattle.mime_tree.specs.declared.values.Item.TheVariants.{Group, GroupEnd}
use Rattle.address_grammar.specs.declared.pieces.Special.TheVariants.{Comma, Colon, Semicolon, Open, Close, At}
use Rattle.address_grammar.specs.declared.pieces.Piece.{Piece}
use Rattle.address_grammar.specs.declared.pieces.Piece.TheVariants.{Run, Quoted, Comment, Literal, Mark, Blank}
use Rattle.address_grammar.specs.Places.{into_first, places}
use Rattle.address_grammar.specs.Words.{is_gap, is_wordlike, are_gaps, bare, is_phrase, name_of, comment_name, comments, ending_gaps, local_of, domain_of, is_domain}
use Rattle.address_grammar.specs.Addresses.{front_phrase, behind_phrase, begins_angle, angled, alone, closed, addr, both, behind_route, addr_behind, routed_addr, address}
use Rattle.address_grammar.specs.Addresses.AddrSpec.{addr_spec}
use Rattle.address_grammar.specs.Lists.{then_items, one_item, address_or_none, group_begun, nothing, list, members, behind_group}
use Rattle.address_grammar.specs.Grammar.{IsAddrSpec, AreDomains, route, IsAlone, IsNamed, IsMember, Separated, IsGroup, IsPart, IsAddressList}
use Rattle.address_grammar.proofs.PlaceLemmas.{in_first}
use Rattle.address_grammar.proofs.AddressLemmas.{bare_gap, bare_other, bare-gaps}
use Rattle.address_grammar.proofs.PrintedLists.{IsCalm, calm_both, place_last, place_comma, place_colon, place_semicolon, address_open, gaps_open}

-- Pieces that neither end a place nor stand round an addr.
abbrev pub is_quiet : Piece → Bool
is_quiet (Mark At) = true
is_quiet (Mark special) = false
is_quiet p = true

abbrev pub are_quiet : List Piece → Bool
are_quiet [] = true
are_quiet (p ∷ ps) = is_quiet p && are_quiet ps

calm_one : (p : Piece) (ps : List Piece) → is_quiet p ≡ true → IsCalm ps → IsCalm (p ∷ ps)
calm_one (Run text) ps q a = record { is = λ rest. ap (into_first (Run text)) (a.is rest) }
calm_one (Quoted text) ps q a = record { is = λ rest. ap (into_first (Quoted text)) (a.is rest) }
calm_one (Comment text) ps q a = record { is = λ rest. ap (into_first (Comment text)) (a.is rest) }
calm_one (Literal text) ps q a = record { is = λ rest. ap (into_first (Literal text)) (a.is rest) }
calm_one Blank ps q a = record { is = λ rest. ap (into_first Blank) (a.is rest) }
calm_one (Mark At) ps q a = record { is = λ rest. ap (into_first (Mark At)) (a.is rest) }
calm_one (Mark Comma) ps q a = absurd (cc)
calm_one (Mark Colon) ps q a = absurd (cc)
calm_one (Mark Semicolon) ps q a = absurd (cc)
calm_one (Mark Open) ps q a = absurd (cc)
calm_one (Mark Close) ps q a = absurd (cc)

quiet_calm : (ps : List Piece) → are_quiet ps ≡ true → IsCalm ps
quiet_calm [] q = record { is = λ rest. refl }
quiet_calm (p ∷ ps) q = let parts = and_parts (is_quiet p) (are_quiet ps) q in calm_one p ps parts.0 (quiet_calm ps parts.1)

gap_quiet : (p : Piece) → is_gap p ≡ true → is_quiet p ≡ true
gap_quiet (Comment text) e = refl
gap_quiet Blank e = refl
gap_quiet p e = absurd (cc)

word_quiet : (p : Piece) → (is_gap p || is_wordlike p) ≡ true → is_quiet p ≡ true
word_quiet (Run text) e = refl
word_quiet (Quoted text) e = refl
word_quiet (Comment text) e = refl
word_quiet Blank e = refl
word_quiet p e = absurd (cc)

gaps_quiet : (ps : List Piece) → are_gaps ps ≡ true → are_quiet ps ≡ true
gaps_quiet [] g = refl
gaps_quiet (p ∷ ps) g = let parts = and_parts (is_gap p) (are_gaps ps) g in and_from (is_quiet p) (are_quiet ps) (gap_quiet p parts.0) (gaps_quiet ps parts.1)

phrase_quiet : (ps : List Piece) → is_phrase ps ≡ true → are_quiet ps ≡ true
phrase_quiet [] g = refl
phrase_quiet (p ∷ ps) g =
    let parts = and_parts (is_gap p || is_wordlike p) (is_phrase ps) g in and_from (is_quiet p) (are_quiet ps) (word_quiet p parts.0) (phrase_quiet ps parts.1)

-- Pieces are as quiet as they are without gaps.
bare_quiet : (ps : List Piece) → are_quiet (bare ps) ≡ true → are_quiet ps ≡ true
bare_quiet [] q = refl
bare_quiet (p ∷ ps) q =
    elim (cases_Bool (is_gap p)) [
      | inl is ↦ and_from (is_quiet p) (are_quiet ps) (gap_quiet p is) (bare_quiet ps (sym (ap are_quiet (bare_gap p ps is)) ∙ q))
      | inr isnt ↦
          let parts = and_parts (is_quiet p) (are_quiet (bare ps)) (sym (ap are_quiet (bare_other p ps isnt)) ∙ q) in
          and_from (is_quiet p) (are_quiet ps) parts.0 (bare_quiet ps parts.1)
    ]

local_quiet : (l : Piece) (local : List ℕ) → local_of l ≡ Some local → is_quiet l ≡ true
local_quiet (Run text) local e = refl
local_quiet (Quoted text) local e = refl
local_quiet p local e = absurd (cc)

domain_quiet : (d : Piece) (domain : List ℕ) → domain_of d ≡ Some domain → is_quiet d ≡ true
domain_quiet (Run text) domain e = refl
domain_quiet (Literal text) domain e = refl
domain_quiet p domain e = absurd (cc)

spec_quiet : (ps : List Piece) (local domain : List ℕ) → IsAddrSpec ps local domain → are_quiet ps ≡ true
spec_quiet ps local domain s =
    ap are_quiet s.is
    ∙ and_from (is_quiet s.l) (is_quiet s.d && true) (local_quiet s.l local s.local_is) (and_from (is_quiet s.d) true (domain_quiet s.d domain s.domain_is) refl)

behind_quiet : (ps : List Piece) → are_quiet ps ≡ true → are_quiet (behind_phrase ps) ≡ true
behind_quiet [] q = refl
behind_quiet (p ∷ ps) q =
    let parts = and_parts (is_quiet p) (are_quiet ps) q in
    cond_both (is_gap p || is_wordlike p) (behind_phrase ps) (p ∷ ps) (λ z. are_quiet z ≡ true) (λ _. behind_quiet ps parts.1) (λ _. q)

quiet_angle : (ps : List Piece) → are_quiet ps ≡ true → begins_angle ps ≡ false
quiet_angle (Mark Open ∷ ps) q = absurd (cc)
quiet_angle ps q = refl

-- An addr alone

alone_reads : (ps : List Piece) (item : Item) → IsAlone ps item → address ps ≡ Some item
alone_reads ps item a =
    let s = a.is_addr in
    let quiet = bare_quiet ps (spec_quiet (bare ps) a.local a.domain s) in
    let name = comment_name (comments (ending_gaps ps)) in
    cond-false (begins_angle (behind_phrase ps)) (angled (name_of (front_phrase ps)) (bare (behind_phrase ps))) (alone name (addr (bare ps)))
    (quiet_angle (behind_phrase ps) (behind_quiet ps quiet))
    ∙ ap (λ z. alone name (addr z)) s.is ∙ ap (λ z. alone name (both z (domain_of s.d) [])) s.local_is ∙ ap (λ z. alone name (both (Some a.local) z [])) s.domain_is
    ∙ ap Some (sym a.is)

some_bare : (ps : List Piece) (p : Piece) (rest : List Piece) → bare ps ≡ p ∷ rest → are_gaps ps ≡ false
some_bare ps p rest e =
    elim (cases_Bool (are_gaps ps)) [
      | inl is ↦ let none : [] ≡ p ∷ rest = sym (bare-gaps ps is) ∙ e in absurd (cc)
      | inr isnt ↦ isnt
    ]

-- An addr in angle brackets

abbrev pub no_close : List Piece → Bool
no_close [] = true
no_close (Mark Close ∷ ps) = false
no_close (p ∷ ps) = no_close ps

no_close_both : (ps qs : List Piece) → no_close ps ≡ true → no_close qs ≡ true → no_close (ps ++ qs) ≡ true
no_close_both [] qs a b = b
no_close_both (Mark Close ∷ ps) qs a b = absurd (cc)
no_close_both (Mark Comma ∷ ps) qs a b = no_close_both ps qs a b
no_close_both (Mark Colon ∷ ps) qs a b = no_close_both ps qs a b
no_close_both (Mark Semicolon ∷ ps) qs a b = no_close_both ps qs a b
no_close_both (Mark Open ∷ ps) qs a b = no_close_both ps qs a b
no_close_both (Mark At ∷ ps) qs a b = no_close_both ps qs a b
no_close_both (Run text ∷ ps) qs a b = no_close_both ps qs a b
no_close_both (Quoted text ∷ ps) qs a b = no_close_both ps qs a b
no_close_both (Comment text ∷ ps) qs a b = no_close_both ps qs a b
no_close_both (Literal text ∷ ps) qs a b = no_close_both ps qs a b
no_close_both (Blank ∷ ps) qs a b = no_close_both ps qs a b

quiet_close : (ps : List Piece) → are_quiet ps ≡ true → no_close ps ≡ true
quiet_close [] q = refl
quiet_close (Mark At ∷ ps) q = quiet_close ps q
quiet_close (Run text ∷ ps) q = quiet_close ps q
quiet_close (Quoted text ∷ ps) q = quiet_close ps q
quiet_close (Comment text ∷ ps) q = quiet_close ps q
quiet_close (Literal text ∷ ps) q = quiet_close ps q
quiet_close (Blank ∷ ps) q = quiet_close ps q
quiet_close (Mark Comma ∷ ps) q = absurd (cc)
quiet_close (Mark Colon ∷ ps) q = absurd (cc)
quiet_close (Mark Semicolon ∷ ps) q = absurd (cc)
quiet_close (Mark Open ∷ ps) q = absurd (cc)
quiet_close (Mark Close ∷ ps) q = absurd (cc)

domain_close : (d : Piece) (ps : List Piece) → is_domain d ≡ true → no_close ps ≡ true → no_close (d ∷ ps) ≡ true
domain_close (Run text) ps is h = h
domain_close (Literal text) ps is h = h
domain_close p ps is h = absurd (cc)

route_close : (ds : List Piece) → AreDomains ds → no_close (route ds) ≡ true
route_close [] h = refl
route_close (d ∷ []) h = domain_close d (Mark Colon ∷ []) h.0 refl
route_close (d ∷ e ∷ ds) h = domain_close d (Mark Comma ∷ route (e ∷ ds)) h.0 (route_close (e ∷ ds) h.1)

-- Within angle brackets pieces belong to the place up to the `>` and behind it.
record IsClosing (ps : List Piece) : Type 0 where
  is : (rest : List Piece) → places true (ps ++ rest) ≡ in_first ps (places false rest)

closing_on : (p : Piece) (ps : List Piece) → no_close (p ∷ []) ≡ true → IsClosing ps → IsClosing (p ∷ ps)
closing_on (Run text) ps q a = record { is = λ rest. ap (into_first (Run text)) (a.is rest) }
closing_on (Quoted text) ps q a = record { is = λ rest. ap (into_first (Quoted text)) (a.is rest) }
closing_on (Comment text) ps q a = record { is = λ rest. ap (into_first (Comment text)) (a.is rest) }
closing_on (Literal text) ps q a = record { is = λ rest. ap (into_first (Literal text)) (a.is rest) }
closing_on Blank ps q a = record { is = λ rest. ap (into_first Blank) (a.is rest) }
closing_on (Mark Comma) ps q a = record { is = λ rest. ap (into_first (Mark Comma)) (a.is rest) }
closing_on (Mark Colon) ps q a = record { is = λ rest. ap (into_first (Mark Colon)) (a.is rest) }
closing_on (Mark Semicolon) ps q a = record { is = λ rest. ap (into_first (Mark Semicolon)) (a.is rest) }
closing_on (Mark Open) ps q a = record { is = λ rest. ap (into_first (Mark Open)) (a.is rest) }
closing_on (Mark At) ps q a = record { is = λ rest. ap (into_first (Mark At)) (a.is rest) }
closing_on (Mark Close) ps q a = absurd (cc)

closing_now : (ps : List Piece) → IsCalm ps → IsClosing (Mark Close ∷ ps)
closing_now ps a = record { is = λ rest. ap (into_first (Mark Close)) (a.is rest) }

no_close_first : (p : Piece) (ps : List Piece) → no_close (p ∷ ps) ≡ true → (no_close (p ∷ []) ≡ true) × (no_close ps ≡ true)
no_close_first (Mark Close) ps h = absurd (cc)
no_close_first p ps h = (refl, h)

gap_close : (p : Piece) → is_gap p ≡ true → no_close (p ∷ []) ≡ true
gap_close (Comment text) e = refl
gap_close Blank e = refl
gap_close p e = absurd (cc)

no_bare : (ps : List Piece) → bare ps ≡ [] → are_gaps ps ≡ true
no_bare [] e = refl
no_bare (p ∷ ps) e =
    elim (cases_Bool (is_gap p)) [
      | inl is ↦ and_from (is_gap p) (are_gaps ps) is (no_bare ps (sym (bare_gap p ps is) ∙ e))
      | inr isnt ↦ let none : p ∷ bare ps ≡ [] = sym (bare_other p ps isnt) ∙ e in absurd (cc)
    ]

closing_here : (p : Piece) (ps within : List Piece) → (p ∷ bare ps) ≡ within ++ Mark Close ∷ [] → no_close within ≡ true →
    ((more : List Piece) → bare ps ≡ more ++ Mark Close ∷ [] → no_close more ≡ true → IsClosing ps) → IsClosing (p ∷ ps)
closing_here p ps [] e h more =
    let one : p ≡ Mark Close = cc in
    let none : bare ps ≡ [] = cc in
    subst (λ z. IsClosing (z ∷ ps)) (sym one) (closing_now ps (quiet_calm ps (gaps_quiet ps (no_bare ps none))))
closing_here p ps (q ∷ qs) e h more =
    let one : q ≡ p = cc in
    let left : bare ps ≡ qs ++ Mark Close ∷ [] = cc in
    let parts = no_close_first q qs h in
    closing_on p ps (subst (λ z. no_close (z ∷ []) ≡ true) one parts.0) (more qs left parts.1)

closing_all : (ps within : List Piece) → bare ps ≡ within ++ Mark Close ∷ [] → no_close within ≡ true → IsClosing ps
closing_all [] [] e h = absurd (cc)
closing_all [] (q ∷ qs) e h = absurd (cc)
closing_all (p ∷ ps) within e h =
    elim (cases_Bool (is_gap p)) [
      | inl is ↦ closing_on p ps (gap_close p is) (closing_all ps within (sym (bare_gap p ps is) ∙ e) h)
      | inr isnt ↦ closing_here p ps within (sym (bare_other p ps isnt) ∙ e) h (λ more left kept. closing_all ps more left kept)
    ]

named_calm : (ps : List Piece) (item : Item) → IsNamed ps item → IsCalm ps
named_calm ps item n =
    let within = route n.domains ++ n.addr in
    let close = closing_all n.rest within (n.within ∙ sym (append_assoc (route n.domains) n.addr (Mark Close ∷ [])))
    (no_close_both (route n.domains) n.addr (route_close n.domains n.are_domains) (quiet_close n.addr (spec_quiet n.addr n.local n.domain n.is_addr))) in
    subst IsCalm (sym n.parts)
    (calm_both n.phrase (Mark Open ∷ n.rest) (quiet_calm n.phrase (phrase_quiet n.phrase n.named)) (record { is = λ rest. ap (into_first (Mark Open)) (close.is rest) }))

-- What is behind the first `@` of a route and of what follows it.
record IsRouted (ps rest : List Piece) : Type 0 where
  left : List Piece
  is : ps ≡ Mark At ∷ left
  behind : behind_route left ≡ Some rest

route_left : (d : Piece) (ds rest : List Piece) → AreDomains (d ∷ ds) → IsRouted (route (d ∷ ds) ++ rest) rest
route_left d [] rest h = record { left = d ∷ Mark Colon ∷ rest; is = refl; behind = cond-true (is_domain d) (Some rest) None h.0 }
route_left d (e ∷ ds) rest h =
    let more = route_left e ds rest h.1 in
    record {
      left = d ∷ Mark Comma ∷ Mark At ∷ more.left;
      is = ap (λ z. Mark At ∷ d ∷ Mark Comma ∷ z) more.is;
      behind = cond-true (is_domain d) (behind_route more.left) None h.0 ∙ more.behind;
    }

addr_of_spec : (ps rest : List Piece) (local domain : List ℕ) → IsAddrSpec ps local domain → addr (ps ++ rest) ≡ Some (addr_spec local domain rest)
addr_of_spec ps rest local domain s =
    ap (λ z. addr (z ++ rest)) s.is ∙ ap (λ z. both z (domain_of s.d) rest) s.local_is ∙ ap (λ z. both (Some local) z rest) s.domain_is

unrouted_first : (l : Piece) (ps : List Piece) (local : List ℕ) → local_of l ≡ Some local → routed_addr (l ∷ ps) ≡ addr (l ∷ ps)
unrouted_first (Run text) ps local e = refl
unrouted_first (Quoted text) ps local e = refl
unrouted_first p ps local e = absurd (cc)

route_reads : (ds ps rest : List Piece) (local domain : List ℕ) → AreDomains ds → IsAddrSpec ps local domain → routed_addr (route ds ++ (ps ++ rest)) ≡ Some (addr_spec local domain rest)
route_reads [] ps rest local domain h s =
    ap (λ z. routed_addr (z ++ rest)) s.is ∙ unrouted_first s.l (Mark At ∷ s.d ∷ rest) local s.local_is ∙ ap (λ z. addr (z ++ rest)) (sym s.is) ∙ addr_of_spec ps rest local domain s
route_reads (d ∷ ds) ps rest local domain h s =
    let r = route_left d ds (ps ++ rest) h in
    ap routed_addr r.is ∙ ap addr_behind r.behind ∙ addr_of_spec ps rest local domain s

named_reads : (ps : List Piece) (item : Item) → IsNamed ps item → address ps ≡ Some item
named_reads ps item n =
    let name = name_of n.phrase in
    ap address n.parts ∙ address_open n.phrase n.rest n.named ∙ ap (λ z. closed name (routed_addr z)) n.within
    ∙ ap (closed name) (route_reads n.domains n.addr (Mark Close ∷ []) n.local n.domain n.are_domains n.is_addr) ∙ ap Some (sym n.is)

-- Members

-- The pieces belong to one place, and give these items.
record Gives (ps : List Piece) (items : List Item) : Type 0 where
  calm : IsCalm ps
  given : address_or_none ps ≡ Some items

given_item : (ps : List Piece) (item : Item) (items : List Item) → are_gaps ps ≡ false → address ps ≡ Some item → items ≡ item ∷ [] → address_or_none ps ≡ Some items
given_item ps item items some e is = cond-false (are_gaps ps) (Some []) (one_item (address ps)) some ∙ ap one_item e ∙ ap Some (sym is)

member_gives : (ps : List Piece) (items : List Item) → IsMember ps items → Gives ps items
member_gives ps items (inl empty) = record {
  calm = quiet_calm ps (gaps_quiet ps empty.0);
  given = cond-true (are_gaps ps) (Some []) (one_item (address ps)) empty.0 ∙ ap Some (sym empty.1);
}
member_gives ps items (inr (item, inl a, is)) = record {
  calm = quiet_calm ps (bare_quiet ps (spec_quiet (bare ps) a.local a.domain a.is_addr));
  given = given_item ps item items (some_bare ps a.is_addr.l (Mark At ∷ a.is_addr.d ∷ []) a.is_addr.is) (alone_reads ps item a) is;
}
member_gives ps items (inr (item, inr n, is)) = record {
  calm = named_calm ps item n;
  given = given_item ps item items (ap are_gaps n.parts ∙ gaps_open n.phrase n.rest) (named_reads ps item n) is;
}

-- Lists

assoc_items : (a b : List Item) (w : Option (List Item)) → then_items (Some (a ++ b)) w ≡ then_items (Some a) (then_items (Some b) w)
assoc_items a b None = refl
assoc_items a b (Some c) = ap Some (append_assoc a b c)

-- The addresses of a group, and what is behind its semicolon.
members_read : (n : ℕ) (inside after : List Piece) (found : List Item) → Separated IsMember n inside found →
    members (places false (inside ++ Mark Semicolon ∷ after)) ≡ then_items (Some found) (then_items (Some (GroupEnd ∷ [])) (behind_group (places false after)))
members_read zero inside after found m =
    let g = member_gives inside found m in
    ap members (place_semicolon inside after g.calm) ∙ ap (λ v. then_items v (then_items (Some (GroupEnd ∷ [])) (behind_group (places false after)))) g.given
members_read (suc n) inside after found (part, rest, here, others, m, parts, is, more) =
    let g = member_gives part here m in
    let left = then_items (Some (GroupEnd ∷ [])) (behind_group (places false after)) in
    ap (λ z. members (places false (z ++ Mark Semicolon ∷ after))) parts ∙ ap (λ z. members (places false z)) (append_assoc part (Mark Comma ∷ rest) (Mark Semicolon ∷ after))
    ∙ ap members (place_comma part (rest ++ Mark Semicolon ∷ after) g.calm) ∙ ap (λ v. then_items v (members (places false (rest ++ Mark Semicolon ∷ after)))) g.given
    ∙ ap (then_items (Some here)) (members_read n rest after others more) ∙ sym (assoc_items here others left) ∙ ap (λ z. then_items (Some z) left) (sym is)

-- A part up to the end of a value or to a comma.
record PartReads (ps : List Piece) (items : List Item) : Type 0 where
  last : list (places false ps) ≡ Some items
  comma : (rest : List Piece) → list (places false (ps ++ Mark Comma ∷ rest)) ≡ then_items (Some items) (list (places false rest))

member_part : (ps : List Piece) (items : List Item) → Gives ps items → PartReads ps items
member_part ps items g = record {
  last = ap (λ z. list (places false z)) (sym (append-nil ps)) ∙ ap list (place_last ps g.calm) ∙ g.given;
  comma = λ rest. ap list (place_comma ps rest g.calm) ∙ ap (λ v. then_items v (list (places false rest))) g.given;
}

begun_given : (ps : List Piece) → is_phrase ps ≡ true → are_gaps ps ≡ false → group_begun ps ≡ Some (Group (name_of ps) ∷ [])
begun_given ps phrase some =
    cond-true (is_phrase ps && not (are_gaps ps)) (Some (Group (name_of ps) ∷ [])) None (and_from (is_phrase ps) (not (are_gaps ps)) phrase (ap not some))

nothing_given : (ps : List Piece) → are_gaps ps ≡ true → nothing ps ≡ Some []
nothing_given ps gaps = cond-true (are_gaps ps) (Some []) None gaps

ended : (found : List Item) (w : Option (List Item)) → then_items (Some found) (then_items (Some (GroupEnd ∷ [])) w) ≡ then_items (Some (found ++ GroupEnd ∷ [])) w
ended found w = sym (assoc_items found (GroupEnd ∷ []) w)

-- A group, whatever stands behind its semicolon.
group_reads : (ps rest : List Piece) (items : List Item) (g : IsGroup ps items) →
    list (places false (g.phrase ++ Mark Colon ∷ (g.inside ++ Mark Semicolon ∷ rest))) ≡ then_items (Some items) (behind_group (places false rest))
group_reads ps rest items g =
    let phrase = g.phrase in
    let left = behind_group (places false rest) in
    let begun = Group (name_of phrase) ∷ [] in
    ap list (place_colon phrase (g.inside ++ Mark Semicolon ∷ rest) (quiet_calm phrase (phrase_quiet phrase g.named)))
    ∙ ap (λ v. then_items v (members (places false (g.inside ++ Mark Semicolon ∷ rest)))) (begun_given phrase g.named g.some)
    ∙ ap (then_items (Some begun)) (members_read g.commas g.inside rest g.found g.addresses ∙ ended g.found left)
    ∙ sym (assoc_items begun (g.found ++ GroupEnd ∷ []) left) ∙ ap (λ z. then_items (Some z) left) (sym g.is)

then_none : (v : Option (List Item)) → then_items v (Some []) ≡ v
then_none None = refl
then_none (Some items) = ap Some (append-nil items)

then_empty : (v : Option (List Item)) → then_items (Some []) v ≡ v
then_empty None = refl
then_empty (Some items) = refl

gaps_last : (ps : List Piece) → are_gaps ps ≡ true → behind_group (places false ps) ≡ Some []
gaps_last ps gaps =
    ap (λ z. behind_group (places false z)) (sym (append-nil ps)) ∙ ap behind_group (place_last ps (quiet_calm ps (gaps_quiet ps gaps))) ∙ nothing_given ps gaps

gaps_comma : (ps rest : List Piece) → are_gaps ps ≡ true → behind_group (places false (ps ++ Mark Comma ∷ rest)) ≡ list (places false rest)
gaps_comma ps rest gaps =
    ap behind_group (place_comma ps rest (quiet_calm ps (gaps_quiet ps gaps))) ∙ ap (λ v. then_items v (list (places false rest))) (nothing_given ps gaps)
    ∙ then_empty (list (places false rest))

group_part : (ps : List Piece) (items : List Item) → IsGroup ps items → PartReads ps items
group_part ps items g = record {
  last = ap (λ z. list (places false z)) g.parts ∙ group_reads ps g.after items g ∙ ap (then_items (Some items)) (gaps_last g.after g.gaps) ∙ then_none (Some items);
  comma = λ rest.
      ap (λ z. list (places false (z ++ Mark Comma ∷ rest))) g.parts
      ∙ ap (λ z. list (places false z)) (append_assoc g.phrase (Mark Colon ∷ (g.inside ++ Mark Semicolon ∷ g.after)) (Mark Comma ∷ rest)
      ∙ ap (λ z. g.phrase ++ Mark Colon ∷ z) (append_assoc g.inside (Mark Semicolon ∷ g.after) (Mark Comma ∷ rest)))
      ∙ group_reads ps (g.after ++ Mark Comma ∷ rest) items g ∙ ap (then_items (Some items)) (gaps_comma g.after rest g.gaps);
}

part_reads : (ps : List Piece) (items : List Item) → IsPart ps items → PartReads ps items
part_reads ps items (inl m) = member_part ps items (member_gives ps items m)
part_reads ps items (inr g) = group_part ps items g

list_reads : (n : ℕ) (ps : List Piece) (items : List Item) → Separated IsPart n ps items → list (places false ps) ≡ Some items
list_reads zero ps items part = (part_reads ps items part).last
list_reads (suc n) ps items (part, rest, here, others, m, parts, is, more) =
    ap (λ z. list (places false z)) parts ∙ (part_reads part here m).comma rest ∙ ap (then_items (Some here)) (list_reads n rest others more) ∙ ap Some (sym is)

pub list_of_list : (ps : List Piece) (items : List Item) → IsAddressList ps items → list (places false ps) ≡ Some items
list_of_list ps items l = list_reads l.0 ps items l.1
