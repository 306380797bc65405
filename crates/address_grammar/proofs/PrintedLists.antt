-- Printed items are read as these items.
use Rattle.std.proofs.Common.{◌≡◌, ℕ, Bool, true, false, ◌&&◌, ◌||◌, not, List, [], ◌∷◌, ◌++◌, Option, Some, None, refl, sym, ◌∙◌, ap, subst}
use Rattle.std.proofs.lemmas.Bool.{cond_both, cond-true, cond-false, and_parts, and_from, and_right}
use Rattle.std.proofs.lemmas.List.{append-nil, append_assoc}
use Rattle.mime_tree.specs.declared.values.Item.{Item}
use Rattle.mime_tree.specs.declared.values.Item.TheVariants.{Address, Group, GroupEnd}
use Rattle.address_grammar.specs.declared.printing.Before.TheVariants.{TheStart, AnItem, AGroupName}
use Rattle.address_grammar.specs.declared.pieces.Special.TheVariants.{Comma, Colon, Semicolon, Open, Close, At}
use Rattle.address_grammar.specs.declared.pieces.Piece.{Piece}
use Rattle.address_grammar.specs.declared.pieces.Piece.TheVariants.{Run, Quoted, Literal, Mark, Blank}
use Rattle.address_grammar.specs.declared.places.Ending.TheVariants.{AtComma, AtColon, AtSemicolon, AtEnd}
use Rattle.address_grammar.specs.Places.{Place, into_first, places}
use Rattle.address_grammar.specs.Places.Place.{place}
use Rattle.address_grammar.specs.Words.{is_gap, is_wordlike, are_gaps, bare, is_phrase, begins_word, words, spaced, name_of, comment_name, comments, ending_gaps}
use Rattle.address_grammar.specs.Addresses.{front_phrase, behind_phrase, begins_angle, angled, alone, addr, address}
use Rattle.address_grammar.specs.Lists.{then_items, one_item, address_or_none, group_begun, list, members, behind_group, some_items, items_of, reading}
use Rattle.address_grammar.specs.Printing.{split, is_bare, printed}
use Rattle.address_grammar.proofs.PlaceLemmas.{in_first, in_first-place}
use Rattle.address_grammar.proofs.SplitLemmas.{split-some}
use Rattle.address_grammar.specs.Spelling.{is_run}
use Rattle.address_grammar.proofs.PrintedPieces.{each_run, runs}
use Rattle.address_grammar.proofs.PrintedItems.{spaced-split, name_pieces, local_piece, domain_piece, addr_pieces, angle_pieces, address_pieces, items_pieces, are_good_items, pieces_items}

-- The pieces belong to one place, whatever stands behind them.
pub record IsCalm (ps : List Piece) : Type 0 where
  pub is : (rest : List Piece) → places false (ps ++ rest) ≡ in_first ps (places false rest)

in_first-append : (ps qs : List Piece) (rest : List Place) → in_first ps (in_first qs rest) ≡ in_first (ps ++ qs) rest
in_first-append [] qs rest = refl
in_first-append (p ∷ ps) qs rest = ap (into_first p) (in_first-append ps qs rest)

pub calm_both : (ps qs : List Piece) → IsCalm ps → IsCalm qs → IsCalm (ps ++ qs)
calm_both ps qs a b = record {
  is = λ rest. ap (places false) (append_assoc ps qs rest) ∙ a.is (qs ++ rest) ∙ ap (in_first ps) (b.is rest) ∙ in_first-append ps qs (places false rest);
}

calm_each : (ws : List (List ℕ)) → IsCalm (each_run ws)
calm_each [] = record { is = λ rest. refl }
calm_each (w ∷ ws) = let more = calm_each ws in record { is = λ rest. ap (λ z. into_first Blank (into_first (Run w) z)) (more.is rest) }

calm_runs : (ws : List (List ℕ)) → IsCalm (runs ws)
calm_runs [] = record { is = λ rest. refl }
calm_runs (w ∷ ws) = let more = calm_each ws in record { is = λ rest. ap (into_first (Run w)) (more.is rest) }

calm_name : (name : List ℕ) → IsCalm (name_pieces name)
calm_name name = cond_both (is_bare 32 name) (runs (split 32 name)) (Quoted name ∷ []) IsCalm (λ _. calm_runs (split 32 name)) (λ _. record { is = λ rest. refl })

-- What holds of a run or a quoted string and of a run or a literal.
by_kinds : (local domain : List ℕ) (P : Piece → Piece → Type 0) → P (Run local) (Run domain) → P (Run local) (Literal domain) → P (Quoted local) (Run domain) → P (Quoted local) (Literal domain) →
    P (local_piece local) (domain_piece domain)
by_kinds local domain P a b c d =
    cond_both (is_bare 46 local) (Run local) (Quoted local) (λ l. P l (domain_piece domain))
    (λ _. cond_both (is_run domain) (Run domain) (Literal domain) (P (Run local)) (λ _. a) (λ _. b))
    (λ _. cond_both (is_run domain) (Run domain) (Literal domain) (P (Quoted local)) (λ _. c) (λ _. d))

calm_addr : (local domain : List ℕ) → IsCalm (addr_pieces local domain)
calm_addr local domain =
    by_kinds local domain (λ l d. IsCalm (l ∷ Mark At ∷ d ∷ []))
    (record { is = λ rest. refl }) (record { is = λ rest. refl }) (record { is = λ rest. refl }) (record { is = λ rest. refl })

calm_angle : (local domain : List ℕ) → IsCalm (angle_pieces local domain)
calm_angle local domain =
    by_kinds local domain (λ l d. IsCalm (Blank ∷ Mark Open ∷ (l ∷ Mark At ∷ d ∷ Mark Close ∷ [])))
    (record { is = λ rest. refl }) (record { is = λ rest. refl }) (record { is = λ rest. refl }) (record { is = λ rest. refl })

-- A blank or nothing.
abbrev pub blank_or : Bool → List Piece
blank_or true = Blank ∷ []
blank_or false = []

calm_blank : (blank : Bool) → IsCalm (blank_or blank)
calm_blank true = record { is = λ rest. refl }
calm_blank false = record { is = λ rest. refl }

calm_address : (blank : Bool) (name local domain : List ℕ) → IsCalm (blank_or blank ++ address_pieces name local domain)
calm_address blank [] local domain = calm_both (blank_or blank) (addr_pieces local domain) (calm_blank blank) (calm_addr local domain)
calm_address blank (c ∷ cs) local domain =
    calm_both (blank_or blank) (name_pieces (c ∷ cs) ++ angle_pieces local domain) (calm_blank blank)
    (calm_both (name_pieces (c ∷ cs)) (angle_pieces local domain) (calm_name (c ∷ cs)) (calm_angle local domain))

-- A place that such pieces make, by what stands behind them.
pub place_last : (ps : List Piece) → IsCalm ps → places false (ps ++ []) ≡ place ps AtEnd ∷ []
place_last ps a = a.is [] ∙ in_first-place ps [] AtEnd [] ∙ ap (λ z. place z AtEnd ∷ []) (append-nil ps)

pub place_comma : (ps rest : List Piece) → IsCalm ps → places false (ps ++ Mark Comma ∷ rest) ≡ place ps AtComma ∷ places false rest
place_comma ps rest a = a.is (Mark Comma ∷ rest) ∙ in_first-place ps [] AtComma (places false rest) ∙ ap (λ z. place z AtComma ∷ places false rest) (append-nil ps)

pub place_colon : (ps rest : List Piece) → IsCalm ps → places false (ps ++ Mark Colon ∷ rest) ≡ place ps AtColon ∷ places false rest
place_colon ps rest a = a.is (Mark Colon ∷ rest) ∙ in_first-place ps [] AtColon (places false rest) ∙ ap (λ z. place z AtColon ∷ places false rest) (append-nil ps)

pub place_semicolon : (ps rest : List Piece) → IsCalm ps → places false (ps ++ Mark Semicolon ∷ rest) ≡ place ps AtSemicolon ∷ places false rest
place_semicolon ps rest a = a.is (Mark Semicolon ∷ rest) ∙ in_first-place ps [] AtSemicolon (places false rest) ∙ ap (λ z. place z AtSemicolon ∷ places false rest) (append-nil ps)

-- Names

begins_each : (ws : List (List ℕ)) (blank : Bool) → begins_word (each_run ws ++ blank_or blank) ≡ false
begins_each [] true = refl
begins_each [] false = refl
begins_each (w ∷ ws) blank = refl

words_blank : (blank : Bool) → words (blank_or blank) ≡ []
words_blank true = refl
words_blank false = refl

words_each : (ws : List (List ℕ)) (blank : Bool) → words (each_run ws ++ blank_or blank) ≡ ws
words_each [] blank = words_blank blank
words_each (w ∷ ws) blank = rw (begins_each ws blank) (ap (λ z. w ∷ z) (words_each ws blank))

words_runs : (ws : List (List ℕ)) (blank : Bool) → words (runs ws ++ blank_or blank) ≡ ws
words_runs [] blank = words_blank blank
words_runs (w ∷ ws) blank = rw (begins_each ws blank) (ap (λ z. w ∷ z) (words_each ws blank))

words_quoted : (name : List ℕ) (blank : Bool) → words (Quoted name ∷ blank_or blank) ≡ name ∷ []
words_quoted name true = refl
words_quoted name false = refl

name_pieces_name : (name : List ℕ) (blank : Bool) → name_of (name_pieces name ++ blank_or blank) ≡ name
name_pieces_name name blank =
    cond_both (is_bare 32 name) (runs (split 32 name)) (Quoted name ∷ []) (λ ps. name_of (ps ++ blank_or blank) ≡ name)
    (λ _. ap spaced (words_runs (split 32 name) blank) ∙ spaced-split name) (λ _. ap spaced (words_quoted name blank) ∙ append-nil name)

name_behind : (first last : Bool) (name : List ℕ) → name_of (blank_or first ++ (name_pieces name ++ blank_or last)) ≡ name
name_behind true last name = name_pieces_name name last
name_behind false last name = name_pieces_name name last

phrase_both : (ps qs : List Piece) → is_phrase ps ≡ true → is_phrase qs ≡ true → is_phrase (ps ++ qs) ≡ true
phrase_both [] qs a b = b
phrase_both (p ∷ ps) qs a b =
    let parts = and_parts (is_gap p || is_wordlike p) (is_phrase ps) a in and_from (is_gap p || is_wordlike p) (is_phrase (ps ++ qs)) parts.0 (phrase_both ps qs parts.1 b)

phrase_each : (ws : List (List ℕ)) → is_phrase (each_run ws) ≡ true
phrase_each [] = refl
phrase_each (w ∷ ws) = phrase_each ws

phrase_runs : (ws : List (List ℕ)) → is_phrase (runs ws) ≡ true
phrase_runs [] = refl
phrase_runs (w ∷ ws) = phrase_each ws

phrase_name : (name : List ℕ) → is_phrase (name_pieces name) ≡ true
phrase_name name = cond_both (is_bare 32 name) (runs (split 32 name)) (Quoted name ∷ []) (λ ps. is_phrase ps ≡ true) (λ _. phrase_runs (split 32 name)) (λ _. refl)

phrase_blank : (blank : Bool) → is_phrase (blank_or blank) ≡ true
phrase_blank true = refl
phrase_blank false = refl

-- A phrase up to an angle bracket

front_through : (ps rest : List Piece) → is_phrase ps ≡ true → front_phrase (ps ++ Mark Open ∷ rest) ≡ ps
front_through [] rest h = refl
front_through (p ∷ ps) rest h =
    let parts = and_parts (is_gap p || is_wordlike p) (is_phrase ps) h in
    cond-true (is_gap p || is_wordlike p) (p ∷ front_phrase (ps ++ Mark Open ∷ rest)) [] parts.0 ∙ ap (λ z. p ∷ z) (front_through ps rest parts.1)

behind_through : (ps rest : List Piece) → is_phrase ps ≡ true → behind_phrase (ps ++ Mark Open ∷ rest) ≡ Mark Open ∷ rest
behind_through [] rest h = refl
behind_through (p ∷ ps) rest h =
    let parts = and_parts (is_gap p || is_wordlike p) (is_phrase ps) h in
    cond-true (is_gap p || is_wordlike p) (behind_phrase (ps ++ Mark Open ∷ rest)) (p ∷ (ps ++ Mark Open ∷ rest)) parts.0 ∙ behind_through ps rest parts.1

pub address_open : (ps rest : List Piece) → is_phrase ps ≡ true → address (ps ++ Mark Open ∷ rest) ≡ angled (name_of ps) (bare (Mark Open ∷ rest))
address_open ps rest h =
    let all = ps ++ Mark Open ∷ rest in
    cond-true (begins_angle (behind_phrase all)) (angled (name_of (front_phrase all)) (bare (behind_phrase all))) (alone (comment_name (comments (ending_gaps all))) (addr (bare all)))
    (ap begins_angle (behind_through ps rest h))
    ∙ ap (λ z. angled (name_of z) (bare (behind_phrase all))) (front_through ps rest h) ∙ ap (λ z. angled (name_of ps) (bare z)) (behind_through ps rest h)

pub gaps_open : (ps rest : List Piece) → are_gaps (ps ++ Mark Open ∷ rest) ≡ false
gaps_open [] rest = refl
gaps_open (p ∷ ps) rest = and_right (is_gap p) (are_gaps (ps ++ Mark Open ∷ rest)) (gaps_open ps rest)

-- Addresses

addr_reads : (blank : Bool) (local domain : List ℕ) → address (blank_or blank ++ addr_pieces local domain) ≡ Some (Address [] local domain)
addr_reads true local domain = by_kinds local domain (λ l d. address (Blank ∷ l ∷ Mark At ∷ d ∷ []) ≡ Some (Address [] local domain)) refl refl refl refl
addr_reads false local domain = by_kinds local domain (λ l d. address (l ∷ Mark At ∷ d ∷ []) ≡ Some (Address [] local domain)) refl refl refl refl

addr_some : (blank : Bool) (local domain : List ℕ) → are_gaps (blank_or blank ++ addr_pieces local domain) ≡ false
addr_some true local domain = by_kinds local domain (λ l d. are_gaps (Blank ∷ l ∷ Mark At ∷ d ∷ []) ≡ false) refl refl refl refl
addr_some false local domain = by_kinds local domain (λ l d. are_gaps (l ∷ Mark At ∷ d ∷ []) ≡ false) refl refl refl refl

angle_reads : (name local domain : List ℕ) → angled name (bare (Mark Open ∷ (addr_pieces local domain ++ Mark Close ∷ []))) ≡ Some (Address name local domain)
angle_reads name local domain =
    by_kinds local domain (λ l d. angled name (bare (Mark Open ∷ (l ∷ Mark At ∷ d ∷ Mark Close ∷ []))) ≡ Some (Address name local domain)) refl refl refl refl

grouped : (ps qs : List Piece) (rest : List Piece) → ps ++ (qs ++ Blank ∷ Mark Open ∷ rest) ≡ (ps ++ (qs ++ blank_or true)) ++ Mark Open ∷ rest
grouped ps qs rest = sym (append_assoc ps (qs ++ Blank ∷ []) (Mark Open ∷ rest) ∙ ap (λ z. ps ++ z) (append_assoc qs (Blank ∷ []) (Mark Open ∷ rest)))

named_phrase : (blank : Bool) (name : List ℕ) → is_phrase (blank_or blank ++ (name_pieces name ++ blank_or true)) ≡ true
named_phrase blank name =
    phrase_both (blank_or blank) (name_pieces name ++ blank_or true) (phrase_blank blank) (phrase_both (name_pieces name) (blank_or true) (phrase_name name) refl)

address_reads : (blank : Bool) (name local domain : List ℕ) → address (blank_or blank ++ address_pieces name local domain) ≡ Some (Address name local domain)
address_reads blank [] local domain = addr_reads blank local domain
address_reads blank (c ∷ cs) local domain =
    let phrase = blank_or blank ++ (name_pieces (c ∷ cs) ++ blank_or true) in
    let rest = addr_pieces local domain ++ Mark Close ∷ [] in
    ap address (grouped (blank_or blank) (name_pieces (c ∷ cs)) rest) ∙ address_open phrase rest (named_phrase blank (c ∷ cs))
    ∙ ap (λ z. angled z (bare (Mark Open ∷ rest))) (name_behind blank true (c ∷ cs)) ∙ angle_reads (c ∷ cs) local domain

address_some : (blank : Bool) (name local domain : List ℕ) → are_gaps (blank_or blank ++ address_pieces name local domain) ≡ false
address_some blank [] local domain = addr_some blank local domain
address_some blank (c ∷ cs) local domain =
    ap are_gaps (grouped (blank_or blank) (name_pieces (c ∷ cs)) (addr_pieces local domain ++ Mark Close ∷ []))
    ∙ gaps_open (blank_or blank ++ (name_pieces (c ∷ cs) ++ blank_or true)) (addr_pieces local domain ++ Mark Close ∷ [])

given_address : (blank : Bool) (name local domain : List ℕ) → address_or_none (blank_or blank ++ address_pieces name local domain) ≡ Some (Address name local domain ∷ [])
given_address blank name local domain =
    let ps = blank_or blank ++ address_pieces name local domain in
    cond-false (are_gaps ps) (Some []) (one_item (address ps)) (address_some blank name local domain) ∙ ap one_item (address_reads blank name local domain)

-- Groups

runs_some : (ws : List (List ℕ)) → (ws ≡ [] → ⊥) → are_gaps (runs ws) ≡ false
runs_some [] some = absurd (some refl)
runs_some (w ∷ ws) some = refl

name_some : (name : List ℕ) → are_gaps (name_pieces name) ≡ false
name_some name = cond_both (is_bare 32 name) (runs (split 32 name)) (Quoted name ∷ []) (λ ps. are_gaps ps ≡ false) (λ _. runs_some (split 32 name) (split-some 32 name)) (λ _. refl)

group_some : (blank : Bool) (name : List ℕ) → are_gaps (blank_or blank ++ name_pieces name) ≡ false
group_some true name = name_some name
group_some false name = name_some name

group_name : (blank : Bool) (name : List ℕ) → name_of (blank_or blank ++ name_pieces name) ≡ name
group_name blank name = ap (λ z. name_of (blank_or blank ++ z)) (sym (append-nil (name_pieces name))) ∙ name_behind blank false name

given_group : (blank : Bool) (name : List ℕ) → group_begun (blank_or blank ++ name_pieces name) ≡ Some (Group name ∷ [])
given_group blank name =
    let ps = blank_or blank ++ name_pieces name in
    let phrase = phrase_both (blank_or blank) (name_pieces name) (phrase_blank blank) (phrase_name name) in
    let some : not (are_gaps ps) ≡ true = ap not (group_some blank name) in
    cond-true (is_phrase ps && not (are_gaps ps)) (Some (Group (name_of ps) ∷ [])) None (and_from (is_phrase ps) (not (are_gaps ps)) phrase some)
    ∙ ap (λ n. Some (Group n ∷ [])) (group_name blank name)

-- Lists

abbrev mutual
  -- Whether each group ends, and none stands in a group.
  pub is_list : List Item → Bool
  is_list [] = true
  is_list (Address name local domain ∷ items) = is_list items
  is_list (Group name ∷ items) = is_members items
  is_list (GroupEnd ∷ items) = false

  pub is_members : List Item → Bool
  is_members [] = false
  is_members (Address name local domain ∷ items) = is_members items
  is_members (Group name ∷ items) = false
  is_members (GroupEnd ∷ items) = is_list items

-- How items are read from where they can begin.
record ReadsAgain (items : List Item) : Type 0 where
  start : is_list items ≡ true → list (places false (items_pieces TheStart items)) ≡ Some items
  spaced_start : is_list items ≡ true → list (places false (items_pieces AGroupName items)) ≡ Some items
  in_group : is_members items ≡ true → members (places false (items_pieces AGroupName items)) ≡ Some items
  behind : is_list items ≡ true → behind_group (places false (items_pieces AnItem items)) ≡ Some items

then_none : (v : Option (List Item)) → then_items v (Some []) ≡ v
then_none None = refl
then_none (Some items) = ap Some (append-nil items)

-- A place of no group, and the items behind it.
list_tail : (ps : List Piece) (items : List Item) → IsCalm ps → is_list items ≡ true → ReadsAgain items →
    list (places false (ps ++ items_pieces AnItem items)) ≡ then_items (address_or_none ps) (Some items)
list_tail ps [] a h r = ap list (place_last ps a) ∙ sym (then_none (address_or_none ps))
list_tail ps (Address name local domain ∷ items) a h r =
    ap list (place_comma ps (items_pieces AGroupName (Address name local domain ∷ items)) a) ∙ ap (then_items (address_or_none ps)) (r.spaced_start h)
list_tail ps (Group name ∷ items) a h r =
    ap list (place_comma ps (items_pieces AGroupName (Group name ∷ items)) a) ∙ ap (then_items (address_or_none ps)) (r.spaced_start h)
list_tail ps (GroupEnd ∷ items) a h r = absurd (cc)

-- A place of a group, and the items behind it. The group's end is read with what is behind that.
members_tail : (ps : List Piece) (items : List Item) → IsCalm ps → is_members items ≡ true → ReadsAgain items →
    ((rest : List Item) → is_list rest ≡ true → items ≡ GroupEnd ∷ rest → behind_group (places false (items_pieces AnItem rest)) ≡ Some rest) →
    members (places false (ps ++ items_pieces AnItem items)) ≡ then_items (address_or_none ps) (Some items)
members_tail ps [] a h r b = absurd (cc)
members_tail ps (Address name local domain ∷ items) a h r b =
    ap members (place_comma ps (items_pieces AGroupName (Address name local domain ∷ items)) a) ∙ ap (then_items (address_or_none ps)) (r.in_group h)
members_tail ps (Group name ∷ items) a h r b = absurd (cc)
members_tail ps (GroupEnd ∷ items) a h r b =
    ap members (place_semicolon ps (items_pieces AnItem items) a) ∙ ap (λ z. then_items (address_or_none ps) (then_items (Some (GroupEnd ∷ [])) z)) (b items h refl)

behind_some : (item : Item) (items : List Item) → is_list (item ∷ items) ≡ true → list (places false (items_pieces AGroupName (item ∷ items))) ≡ Some (item ∷ items) →
    behind_group (places false (items_pieces AnItem (item ∷ items))) ≡ Some (item ∷ items)
behind_some (Address name local domain) items h more = ap (then_items (Some [])) more
behind_some (Group name) items h more = ap (then_items (Some [])) more
behind_some GroupEnd items h more = absurd (cc)

address_list : (blank : Bool) (name local domain : List ℕ) (items : List Item) → is_list items ≡ true → ReadsAgain items →
    list (places false ((blank_or blank ++ address_pieces name local domain) ++ items_pieces AnItem items)) ≡ Some (Address name local domain ∷ items)
address_list blank name local domain items h r =
    list_tail (blank_or blank ++ address_pieces name local domain) items (calm_address blank name local domain) h r
    ∙ ap (λ v. then_items v (Some items)) (given_address blank name local domain)

group_list : (blank : Bool) (name : List ℕ) (items : List Item) → is_members items ≡ true → ReadsAgain items →
    list (places false ((blank_or blank ++ (name_pieces name ++ Mark Colon ∷ [])) ++ items_pieces AGroupName items)) ≡ Some (Group name ∷ items)
group_list blank name items h r =
    let ps = blank_or blank ++ name_pieces name in
    let rest = items_pieces AGroupName items in
    let same : (blank_or blank ++ (name_pieces name ++ Mark Colon ∷ [])) ++ rest ≡ ps ++ Mark Colon ∷ rest =
    ap (λ z. z ++ rest) (sym (append_assoc (blank_or blank) (name_pieces name) (Mark Colon ∷ []))) ∙ append_assoc ps (Mark Colon ∷ []) rest in
    ap (λ z. list (places false z)) same ∙ ap list (place_colon ps rest (calm_both (blank_or blank) (name_pieces name) (calm_blank blank) (calm_name name)))
    ∙ ap (λ v. then_items v (members (places false rest))) (given_group blank name) ∙ ap (then_items (Some (Group name ∷ []))) (r.in_group h)

abbrev pub IsBehind : List Item → Type 0
IsBehind items = (rest : List Item) → is_list rest ≡ true → items ≡ GroupEnd ∷ rest → behind_group (places false (items_pieces AnItem rest)) ≡ Some rest

-- Items and those behind their first.
record ReadsBoth (items : List Item) : Type 0 where
  here : ReadsAgain items
  behind_end : IsBehind items

reads_again : (items : List Item) → ReadsBoth items
reads_again [] = record {
  here = record { start = λ h. refl; spaced_start = λ h. refl; in_group = λ h. absurd (cc); behind = λ h. refl };
  behind_end = λ rest h e. absurd (cc);
}
reads_again (Address name local domain ∷ items) =
    let r = reads_again items in
    let spaced_start = λ (h : is_list items ≡ true). address_list true name local domain items h r.here in
    record {
      here = record {
        start = λ h. address_list false name local domain items h r.here;
        spaced_start = spaced_start;
        in_group = λ h. members_tail (blank_or true ++ address_pieces name local domain) items (calm_address true name local domain) h r.here r.behind_end
            ∙ ap (λ v. then_items v (Some items)) (given_address true name local domain);
        behind = λ h. behind_some (Address name local domain) items h (spaced_start h);
      };
      behind_end = λ rest h e. absurd (cc);
    }
reads_again (Group name ∷ items) =
    let r = reads_again items in
    let spaced_start = λ (h : is_members items ≡ true). group_list true name items h r.here in
    record {
      here = record {
        start = λ h. group_list false name items h r.here;
        spaced_start = spaced_start;
        in_group = λ h. absurd (cc);
        behind = λ h. behind_some (Group name) items h (spaced_start h);
      };
      behind_end = λ rest h e. absurd (cc);
    }
reads_again (GroupEnd ∷ items) =
    let r = reads_again items in
    record {
      here = record {
        start = λ h. absurd (cc);
        spaced_start = λ h. absurd (cc);
        in_group = λ h. ap (λ z. then_items (Some []) (then_items (Some (GroupEnd ∷ [])) z)) (r.here.behind h);
        behind = λ h. absurd (cc);
      };
      behind_end = λ rest h e. let same : items ≡ rest = cc in subst (λ z. behind_group (places false (items_pieces AnItem z)) ≡ Some z) same (r.here.behind (subst (λ z. is_list z ≡ true) (sym same) h));
    }

pub reads_printed : (items : List Item) → are_good_items items ≡ true → is_list items ≡ true → (items ≡ [] → ⊥) → reading (printed items) ≡ Some items
reads_printed [] good h some = absurd (some refl)
reads_printed (item ∷ items) good h some =
    let r = reads_again (item ∷ items) in
    ap items_of (pieces_items TheStart (item ∷ items) good) ∙ ap some_items (r.here.start h)
