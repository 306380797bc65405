-- What the places of pieces give is what the grammar gives.
use Rattle.std.proofs.Common.{◌≡◌, ℕ, Bool, true, false, ◌||◌, cond, List, [], ◌∷◌, ◌++◌, Option, Some, None, refl, sym, ◌∙◌, ap, subst, ◌⊎◌, inl, inr}
use Rattle.std.proofs.lemmas.Bool.{cond_both, cases_Bool, cond-true, cond-false, and_from}
use Rattle.mime_tree.specs.declared.values.Item.{Item}
use Rattle.mime_tree.specs.declared.values.Item.TheVariants.{Address}
use Rattle.address_grammar.specs.declared.pieces.Special.TheVariants.{Comma, Colon, Open, Close, At}
use Rattle.address_grammar.specs.declared.pieces.Piece.{Piece}
use Rattle.address_grammar.specs.declared.pieces.Piece.TheVariants.{Mark}
use Rattle.address_grammar.specs.Words.{is_gap, is_wordlike, are_gaps, bare, is_phrase, name_of, comment_name, comments, ending_gaps, local_of, domain_of, is_domain}
use Rattle.address_grammar.specs.Addresses.{AddrSpec, front_phrase, behind_phrase, begins_angle, angled, alone, closed, is_close, addr, both, behind_route, addr_behind, routed_addr, address}
use Rattle.address_grammar.specs.Addresses.AddrSpec.{addr_spec}
use Rattle.address_grammar.specs.Lists.{one_item, address_or_none}
use Rattle.address_grammar.specs.Grammar.{IsAddrSpec, AreDomains, route, IsAlone, IsNamed, IsMember}

-- Addresses

-- The parts of an addr that was found.
record Found (ps : List Piece) (local domain : List ℕ) (rest : List Piece) : Type 0 where
  l : Piece
  d : Piece
  is : ps ≡ l ∷ Mark At ∷ d ∷ rest
  local_is : local_of l ≡ Some local
  domain_is : domain_of d ≡ Some domain

found_both : (l d : Piece) (left : List Piece) (x y : Option (List ℕ)) (local domain : List ℕ) (rest : List Piece) → local_of l ≡ x → domain_of d ≡ y →
    both x y left ≡ Some (addr_spec local domain rest) → Found (l ∷ Mark At ∷ d ∷ left) local domain rest
found_both l d left None y local domain rest a b e = absurd (cc)
found_both l d left (Some x) None local domain rest a b e = absurd (cc)
found_both l d left (Some x) (Some y) local domain rest a b e =
    let p : x ≡ local = cc in
    let q : y ≡ domain = cc in
    let r : left ≡ rest = cc in
    record { l = l; d = d; is = ap (λ z. l ∷ Mark At ∷ d ∷ z) r; local_is = a ∙ ap Some p; domain_is = b ∙ ap Some q }

found_addr : (ps : List Piece) (local domain : List ℕ) (rest : List Piece) → addr ps ≡ Some (addr_spec local domain rest) → Found ps local domain rest
found_addr (l ∷ Mark At ∷ d ∷ left) local domain rest e = found_both l d left (local_of l) (domain_of d) local domain rest refl refl e
found_addr ps local domain rest e = absurd (cc)

spec_of : (ps : List Piece) (local domain : List ℕ) (rest : List Piece) → Found ps local domain rest → (x : List Piece) × IsAddrSpec x local domain × (ps ≡ x ++ rest)
spec_of ps local domain rest f =
    (f.l ∷ Mark At ∷ f.d ∷ [], record { l = f.l; d = f.d; is = refl; local_is = f.local_is; domain_is = f.domain_is }, f.is)

alone_spec : (ps : List Piece) (name : List ℕ) (a : Option AddrSpec) (item : Item) → addr ps ≡ a → alone name a ≡ Some item →
    (local : List ℕ) × (domain : List ℕ) × IsAddrSpec ps local domain × (item ≡ Address name local domain)
alone_spec ps name None item e h = absurd (cc)
alone_spec ps name (Some (addr_spec local domain [])) item e h =
    let f = found_addr ps local domain [] e in
    let same : Address name local domain ≡ item = cc in
    (local, domain, record { l = f.l; d = f.d; is = f.is; local_is = f.local_is; domain_is = f.domain_is }, sym same)
alone_spec ps name (Some (addr_spec local domain (p ∷ more))) item e h = absurd (cc)

-- Routes

record Routed (ps : List Piece) (rest : List Piece) : Type 0 where
  domains : List Piece
  first : Piece
  parts : Mark At ∷ ps ≡ route (first ∷ domains) ++ rest
  good : AreDomains (first ∷ domains)

route_last : (d : Piece) (left rest : List Piece) (is : Bool) → is_domain d ≡ is → cond is (Some left) None ≡ Some rest → Routed (d ∷ Mark Colon ∷ left) rest
route_last d left rest true is e =
    let same : left ≡ rest = cc in record { domains = []; first = d; parts = ap (λ z. Mark At ∷ d ∷ Mark Colon ∷ z) same; good = (is, tt) }
route_last d left rest false is e = absurd (cc)

route_more : (d : Piece) (left rest : List Piece) (is : Bool) → is_domain d ≡ is → cond is (behind_route left) None ≡ Some rest → (behind_route left ≡ Some rest → Routed left rest) →
    Routed (d ∷ Mark Comma ∷ Mark At ∷ left) rest
route_more d left rest true is e more =
    let r = more e in
    record { domains = r.first ∷ r.domains; first = d; parts = ap (λ z. Mark At ∷ d ∷ Mark Comma ∷ z) r.parts; good = (is, r.good) }
route_more d left rest false is e more = absurd (cc)

routed : (ps rest : List Piece) → behind_route ps ≡ Some rest → Routed ps rest
routed (d ∷ Mark Colon ∷ left) rest e = route_last d left rest (is_domain d) refl e
routed (d ∷ Mark Comma ∷ Mark At ∷ left) rest e = route_more d left rest (is_domain d) refl e (routed left rest)
routed ps rest e = absurd (cc)

record RoutedAddr (ps : List Piece) (local domain : List ℕ) (rest : List Piece) : Type 0 where
  domains : List Piece
  addr : List Piece
  parts : ps ≡ route domains ++ (addr ++ rest)
  good : AreDomains domains
  is_addr : IsAddrSpec addr local domain

unrouted : (ps : List Piece) (local domain : List ℕ) (rest : List Piece) → addr ps ≡ Some (addr_spec local domain rest) → RoutedAddr ps local domain rest
unrouted ps local domain rest e =
    let s = spec_of ps local domain rest (found_addr ps local domain rest e) in
    record { domains = []; addr = s.0; parts = s.2; good = tt; is_addr = s.1 }

behind_at : (ps : List Piece) (left : Option (List Piece)) (local domain : List ℕ) (rest : List Piece) → behind_route ps ≡ left → addr_behind left ≡ Some (addr_spec local domain rest) →
    RoutedAddr (Mark At ∷ ps) local domain rest
behind_at ps None local domain rest b e = absurd (cc)
behind_at ps (Some left) local domain rest b e =
    let r = routed ps left b in
    let s = spec_of left local domain rest (found_addr left local domain rest e) in
    record { domains = r.first ∷ r.domains; addr = s.0; parts = r.parts ∙ ap (λ z. route (r.first ∷ r.domains) ++ z) s.2; good = r.good; is_addr = s.1 }

routed_spec : (ps : List Piece) (local domain : List ℕ) (rest : List Piece) → routed_addr ps ≡ Some (addr_spec local domain rest) → RoutedAddr ps local domain rest
routed_spec (Mark At ∷ ps) local domain rest e = behind_at ps (behind_route ps) local domain rest refl e
routed_spec ps local domain rest e = unrouted ps local domain rest e

closing : (ps : List Piece) → is_close ps ≡ true → ps ≡ Mark Close ∷ []
closing [] e = absurd (cc)
closing (Mark Close ∷ []) e = refl
closing (p ∷ []) e = absurd (cc)
closing (p ∷ q ∷ ps) e = absurd (cc)

closed_spec : (ps : List Piece) (name : List ℕ) (a : Option AddrSpec) (item : Item) → routed_addr ps ≡ a → closed name a ≡ Some item →
    (local : List ℕ) × (domain : List ℕ) × RoutedAddr ps local domain (Mark Close ∷ []) × (item ≡ Address name local domain)
closed_spec ps name None item e h = absurd (cc)
closed_spec ps name (Some (addr_spec local domain rest)) item e h =
    elim (cases_Bool (is_close rest)) [
      | inl is ↦
          let same : Some (Address name local domain) ≡ Some item = sym (cond-true (is_close rest) (Some (Address name local domain)) None is) ∙ h in
          let one : Address name local domain ≡ item = cc in
          let r = routed_spec ps local domain rest e in
          (local, domain, subst (RoutedAddr ps local domain) (closing rest is) r, sym one)
      | inr isnt ↦ let none : None ≡ Some item = sym (cond-false (is_close rest) (Some (Address name local domain)) None isnt) ∙ h in absurd (cc)
    ]

front-behind : (ps : List Piece) → ps ≡ front_phrase ps ++ behind_phrase ps
front-behind [] = refl
front-behind (p ∷ ps) =
    elim (cases_Bool (is_gap p || is_wordlike p)) [
      | inl is ↦ rw (is) (ap (λ z. p ∷ z) (front-behind ps))
      | inr isnt ↦ rw (isnt) refl
    ]

front_is : (ps : List Piece) → is_phrase (front_phrase ps) ≡ true
front_is [] = refl
front_is (p ∷ ps) =
    cond_both (is_gap p || is_wordlike p) (p ∷ front_phrase ps) [] (λ z. is_phrase z ≡ true)
    (λ is. and_from (is_gap p || is_wordlike p) (is_phrase (front_phrase ps)) is (front_is ps)) (λ _. refl)

angle_first : (ps : List Piece) → begins_angle ps ≡ true → (rest : List Piece) × (ps ≡ Mark Open ∷ rest)
angle_first (Mark Open ∷ ps) e = (ps, refl)
angle_first ps e = absurd (cc)

named_so : (ps rest : List Piece) (item : Item) → behind_phrase ps ≡ Mark Open ∷ rest → angled (name_of (front_phrase ps)) (bare (behind_phrase ps)) ≡ Some item → IsNamed ps item
named_so ps rest item behind e =
    let name = name_of (front_phrase ps) in
    let c = closed_spec (bare rest) name (routed_addr (bare rest)) item refl (sym (ap (λ z. angled name (bare z)) behind) ∙ e) in
    let r = c.2 in
    record {
      phrase = front_phrase ps;
      rest = rest;
      domains = r.domains;
      addr = r.addr;
      local = c.0;
      domain = c.1;
      parts = front-behind ps ∙ ap (λ z. front_phrase ps ++ z) behind;
      named = front_is ps;
      within = r.parts;
      are_domains = r.good;
      is_addr = r.is_addr;
      is = c.3;
    }

alone_so : (ps : List Piece) (item : Item) → alone (comment_name (comments (ending_gaps ps))) (addr (bare ps)) ≡ Some item → IsAlone ps item
alone_so ps item e =
    let s = alone_spec (bare ps) (comment_name (comments (ending_gaps ps))) (addr (bare ps)) item refl e in
    record { local = s.0; domain = s.1; is_addr = s.2; is = s.3 }

pub address_so : (ps : List Piece) (item : Item) → address ps ≡ Some item → IsAlone ps item ⊎ IsNamed ps item
address_so ps item e =
    let within = angled (name_of (front_phrase ps)) (bare (behind_phrase ps)) in
    let one = alone (comment_name (comments (ending_gaps ps))) (addr (bare ps)) in
    elim (cases_Bool (begins_angle (behind_phrase ps))) [
      | inl is ↦
          let a = angle_first (behind_phrase ps) is in
          inr (named_so ps a.0 item a.1 (sym (cond-true (begins_angle (behind_phrase ps)) within one is) ∙ e))
      | inr isnt ↦ inl (alone_so ps item (sym (cond-false (begins_angle (behind_phrase ps)) within one isnt) ∙ e))
    ]

member_one : (ps : List Piece) (found : Option Item) (items : List Item) → address ps ≡ found → one_item found ≡ Some items → IsMember ps items
member_one ps None items a e = absurd (cc)
member_one ps (Some item) items a e =
    let same : item ∷ [] ≡ items = cc in inr (item, address_so ps item a, sym same)

pub member_so : (ps : List Piece) (items : List Item) → address_or_none ps ≡ Some items → IsMember ps items
member_so ps items e =
    elim (cases_Bool (are_gaps ps)) [
      | inl is ↦
          let same : Some [] ≡ Some items = sym (cond-true (are_gaps ps) (Some []) (one_item (address ps)) is) ∙ e in
          let none : [] ≡ items = cc in inl (is, sym none)
      | inr isnt ↦ member_one ps (address ps) items refl (sym (cond-false (are_gaps ps) (Some []) (one_item (address ps)) isnt) ∙ e)
    ]
