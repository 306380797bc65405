-- The pieces of printed items.
use Rattle.std.proofs.Common.{◌≡◌, ℕ, Bool, true, false, ◌&&◌, ◌||◌, cond, eqb, List, [], ◌∷◌, ◌++◌, Option, Some, None, refl, sym, ◌∙◌, ap, subst, inl, inr}
use Rattle.std.proofs.lemmas.Bool.{cases_Bool, cond-true, cond-false, eqb-true, and_parts, and_from, or_left, or_right}
use Rattle.std.proofs.lemmas.List.{append_assoc}
use Rattle.mail_text.specs.Lines.{put}
use Rattle.mime_tree.specs.declared.values.Item.{Item}
use Rattle.mime_tree.specs.declared.values.Item.TheVariants.{Address, Group, GroupEnd}
use Rattle.address_grammar.specs.declared.printing.Before.{Before}
use Rattle.address_grammar.specs.declared.printing.Before.TheVariants.{TheStart, AnItem, AGroupName}
use Rattle.address_grammar.specs.declared.pieces.Special.TheVariants.{Comma, Colon, Semicolon, Open, Close, At}
use Rattle.address_grammar.specs.declared.pieces.Piece.{Piece}
use Rattle.address_grammar.specs.declared.pieces.Piece.TheVariants.{Run, Quoted, Literal, Mark, Blank}
use Rattle.address_grammar.specs.Pieces.{is_atom, is_plain, before, pieces}
use Rattle.address_grammar.specs.Words.{each_spaced, spaced}
use Rattle.address_grammar.specs.Printing.{split, are_atom_bytes, are_atoms, is_bare, in_quotation, bare_or_quoted, phrase_text, addr_text, address_text, between, item_text, behind_of, printed_behind}
use Rattle.address_grammar.proofs.PieceLemmas.{pieces_none}
use Rattle.address_grammar.proofs.MoreLemmas.{ahead_of}
use Rattle.address_grammar.proofs.SplitLemmas.{split-some, left_bare, bare_start}
use Rattle.address_grammar.specs.Spelling.{are_plain, is_run}
use Rattle.address_grammar.proofs.GoodLemmas.{is_literal}
use Rattle.address_grammar.proofs.PrintedPieces.{is_apart, pieces_run, pieces_quoted, pieces_literal, pieces_comma, pieces_colon, pieces_semicolon, pieces_open, pieces_close, pieces_at, pieces_blank, runs, pieces_words}

-- The text is cut into these pieces, whatever stands behind it that doesn't go on with a run.
record Lexes (text : List ℕ) (ps : List Piece) : Type 0 where
  is : (rest : List ℕ) → is_apart rest ≡ true → pieces (text ++ rest) ≡ ahead_of ps (pieces rest)

ahead-ahead : (ps qs : List Piece) (left : Option (List Piece)) → ahead_of ps (ahead_of qs left) ≡ ahead_of (ps ++ qs) left
ahead-ahead ps qs None = refl
ahead-ahead ps qs (Some rs) = ap Some (sym (append_assoc ps qs rs))

ahead-one : (p : Piece) (left : Option (List Piece)) → before p left ≡ ahead_of (p ∷ []) left
ahead-one p None = refl
ahead-one p (Some ps) = refl

-- One text behind another, which doesn't go on with a run.
lexes_then : (text more : List ℕ) (ps qs : List Piece) → ((rest : List ℕ) → is_apart rest ≡ true → is_apart (more ++ rest) ≡ true) → Lexes text ps → Lexes more qs →
    Lexes (text ++ more) (ps ++ qs)
lexes_then text more ps qs stops a b = record {
  is = λ rest h. ap pieces (append_assoc text more rest) ∙ a.is (more ++ rest) (stops rest h) ∙ ap (ahead_of ps) (b.is rest h) ∙ ahead-ahead ps qs (pieces rest);
}

-- A single piece whose text ends by itself, and what stands behind it.
lexes_on : (text more : List ℕ) (p : Piece) (qs : List Piece) → ((rest : List ℕ) → pieces (text ++ rest) ≡ before p (pieces rest)) → Lexes more qs → Lexes (text ++ more) (p ∷ qs)
lexes_on text more p qs a b = record {
  is = λ rest h. ap pieces (append_assoc text more rest) ∙ a (more ++ rest) ∙ ap (before p) (b.is rest h) ∙ ahead-one p (ahead_of qs (pieces rest)) ∙ ahead-ahead (p ∷ []) qs (pieces rest);
}

lexes_one : (text : List ℕ) (p : Piece) → ((rest : List ℕ) → is_apart rest ≡ true → pieces (text ++ rest) ≡ before p (pieces rest)) → Lexes text (p ∷ [])
lexes_one text p a = record { is = λ rest h. a rest h ∙ ahead-one p (pieces rest) }

-- Names

put_spaced : (c : ℕ) (ls : List (List ℕ)) → (ls ≡ [] → ⊥) → spaced (put c ls) ≡ c ∷ spaced ls
put_spaced c [] some = absurd (some refl)
put_spaced c (l ∷ ls) some = refl

spaced_each : (ls : List (List ℕ)) → (ls ≡ [] → ⊥) → each_spaced ls ≡ 32 ∷ spaced ls
spaced_each [] some = absurd (some refl)
spaced_each (l ∷ ls) some = refl

pub spaced-split : (text : List ℕ) → spaced (split 32 text) ≡ text
spaced-split [] = refl
spaced-split (c ∷ cs) =
    elim (cases_Bool (eqb c 32)) [
      | inl is ↦
          ap spaced (cond-true (eqb c 32) ([] ∷ split 32 cs) (put c (split 32 cs)) is) ∙ spaced_each (split 32 cs) (split-some 32 cs) ∙ ap (λ z. 32 ∷ z) (spaced-split cs)
          ∙ ap (λ b. b ∷ cs) (sym (eqb-true c 32 is))
      | inr isnt ↦
          ap spaced (cond-false (eqb c 32) ([] ∷ split 32 cs) (put c (split 32 cs)) isnt) ∙ put_spaced c (split 32 cs) (split-some 32 cs) ∙ ap (λ z. c ∷ z) (spaced-split cs)
    ]

abbrev pub name_pieces : List ℕ → List Piece
name_pieces name = cond (is_bare 32 name) (runs (split 32 name)) (Quoted name ∷ [])

lexes_name : (name : List ℕ) → Lexes (phrase_text name) (name_pieces name)
lexes_name name =
    elim (cases_Bool (is_bare 32 name)) [
      | inl is ↦
          subst (λ t. Lexes t (name_pieces name)) (sym (cond-true (is_bare 32 name) name (in_quotation name) is))
          (subst (Lexes name) (sym (cond-true (is_bare 32 name) (runs (split 32 name)) (Quoted name ∷ []) is))
          (record { is = λ rest h. ap (λ z. pieces (z ++ rest)) (sym (spaced-split name)) ∙ pieces_words (split 32 name) rest is h }))
      | inr isnt ↦
          subst (λ t. Lexes t (name_pieces name)) (sym (cond-false (is_bare 32 name) name (in_quotation name) isnt))
          (subst (Lexes (in_quotation name)) (sym (cond-false (is_bare 32 name) (runs (split 32 name)) (Quoted name ∷ []) isnt))
          (lexes_one (in_quotation name) (Quoted name) (λ rest h. pieces_quoted name rest)))
    ]

-- Local parts and domains

sooner : (ls : List (List ℕ)) → left_bare false ls ≡ true → left_bare true ls ≡ true
sooner [] h = h
sooner ([] ∷ ws) h = absurd (cc)
sooner ((c ∷ cs) ∷ ws) h = h

after_dot : (ls : List (List ℕ)) → left_bare true ([] ∷ ls) ≡ true → (ls ≡ [] → ⊥) → left_bare false ls ≡ true
after_dot [] h some = absurd (some refl)
after_dot (w ∷ ws) h some = h

put_atom : (c : ℕ) (ls : List (List ℕ)) → (ls ≡ [] → ⊥) → left_bare true (put c ls) ≡ true → (is_atom c ≡ true) × (left_bare true ls ≡ true)
put_atom c [] some h = absurd (some refl)
put_atom c (w ∷ ws) some h =
    let parts = and_parts (is_atom c && are_atom_bytes w) (are_atoms ws) h in
    let front = and_parts (is_atom c) (are_atom_bytes w) parts.0 in (front.0, and_from (are_atom_bytes w) (are_atoms ws) front.1 parts.1)

dotted_plain : (text : List ℕ) → left_bare true (split 46 text) ≡ true → are_plain text ≡ true
dotted_plain [] h = refl
dotted_plain (c ∷ cs) h =
    let some = split-some 46 cs in
    elim (cases_Bool (eqb c 46)) [
      | inl is ↦
          let left : left_bare true ([] ∷ split 46 cs) ≡ true = sym (ap (left_bare true) (cond-true (eqb c 46) ([] ∷ split 46 cs) (put c (split 46 cs)) is)) ∙ h in
          and_from (is_plain c) (are_plain cs) (or_right (is_atom c) (eqb c 46) is) (dotted_plain cs (sooner (split 46 cs) (after_dot (split 46 cs) left some)))
      | inr isnt ↦
          let left : left_bare true (put c (split 46 cs)) ≡ true = sym (ap (left_bare true) (cond-false (eqb c 46) ([] ∷ split 46 cs) (put c (split 46 cs)) isnt)) ∙ h in
          let parts = put_atom c (split 46 cs) some left in
          and_from (is_plain c) (are_plain cs) (or_left (is_atom c) (eqb c 46) parts.0) (dotted_plain cs parts.1)
    ]

some_plain : (text : List ℕ) → is_bare 46 text ≡ true → are_plain text ≡ true → is_run text ≡ true
some_plain [] h plain = absurd (cc)
some_plain (c ∷ cs) h plain = plain

bare_run : (text : List ℕ) → is_bare 46 text ≡ true → is_run text ≡ true
bare_run text h = some_plain text h (dotted_plain text (sooner (split 46 text) (sym (bare_start 46 text) ∙ h)))

abbrev pub local_piece : List ℕ → Piece
local_piece local = cond (is_bare 46 local) (Run local) (Quoted local)

lexes_local : (local : List ℕ) → Lexes (bare_or_quoted 46 local) (local_piece local ∷ [])
lexes_local local =
    elim (cases_Bool (is_bare 46 local)) [
      | inl is ↦
          subst (λ t. Lexes t (local_piece local ∷ [])) (sym (cond-true (is_bare 46 local) local (in_quotation local) is))
          (subst (λ p. Lexes local (p ∷ [])) (sym (cond-true (is_bare 46 local) (Run local) (Quoted local) is))
          (lexes_one local (Run local) (λ rest h. pieces_run local rest (bare_run local is) h)))
      | inr isnt ↦
          subst (λ t. Lexes t (local_piece local ∷ [])) (sym (cond-false (is_bare 46 local) local (in_quotation local) isnt))
          (subst (λ p. Lexes (in_quotation local) (p ∷ [])) (sym (cond-false (is_bare 46 local) (Run local) (Quoted local) isnt))
          (lexes_one (in_quotation local) (Quoted local) (λ rest h. pieces_quoted local rest)))
    ]

-- A run of atoms and dots, or a domain literal.
abbrev pub is_domain_text : List ℕ → Bool
is_domain_text domain = is_run domain || is_literal domain

abbrev pub domain_piece : List ℕ → Piece
domain_piece domain = cond (is_run domain) (Run domain) (Literal domain)

lexes_domain : (domain : List ℕ) → is_domain_text domain ≡ true → Lexes domain (domain_piece domain ∷ [])
lexes_domain domain good =
    elim (cases_Bool (is_run domain)) [
      | inl is ↦
          subst (λ p. Lexes domain (p ∷ [])) (sym (cond-true (is_run domain) (Run domain) (Literal domain) is))
          (lexes_one domain (Run domain) (λ rest h. pieces_run domain rest is h))
      | inr isnt ↦
          let literal : is_literal domain ≡ true = sym (ap (λ t. t || is_literal domain) isnt) ∙ good in
          subst (λ p. Lexes domain (p ∷ [])) (sym (cond-false (is_run domain) (Run domain) (Literal domain) isnt))
          (lexes_one domain (Literal domain) (λ rest h. pieces_literal domain rest literal))
    ]

abbrev pub addr_pieces : List ℕ → List ℕ → List Piece
addr_pieces local domain = local_piece local ∷ Mark At ∷ domain_piece domain ∷ []

lexes_addr : (local domain : List ℕ) → is_domain_text domain ≡ true → Lexes (addr_text local domain) (addr_pieces local domain)
lexes_addr local domain good =
    lexes_then (bare_or_quoted 46 local) (64 ∷ domain) (local_piece local ∷ []) (Mark At ∷ domain_piece domain ∷ []) (λ rest h. refl) (lexes_local local)
    (lexes_on (64 ∷ []) domain (Mark At) (domain_piece domain ∷ []) pieces_at (lexes_domain domain good))

abbrev pub angle_pieces : List ℕ → List ℕ → List Piece
angle_pieces local domain = Blank ∷ Mark Open ∷ (addr_pieces local domain ++ Mark Close ∷ [])

lexes_angle : (local domain : List ℕ) → is_domain_text domain ≡ true → Lexes (32 ∷ 60 ∷ (addr_text local domain ++ 62 ∷ [])) (angle_pieces local domain)
lexes_angle local domain good =
    lexes_on (32 ∷ []) (60 ∷ (addr_text local domain ++ 62 ∷ [])) Blank (Mark Open ∷ (addr_pieces local domain ++ Mark Close ∷ [])) pieces_blank
    (lexes_on (60 ∷ []) (addr_text local domain ++ 62 ∷ []) (Mark Open) (addr_pieces local domain ++ Mark Close ∷ []) pieces_open
    (lexes_then (addr_text local domain) (62 ∷ []) (addr_pieces local domain) (Mark Close ∷ []) (λ rest h. refl) (lexes_addr local domain good)
    (lexes_one (62 ∷ []) (Mark Close) (λ rest h. pieces_close rest))))

abbrev pub address_pieces : List ℕ → List ℕ → List ℕ → List Piece
address_pieces [] local domain = addr_pieces local domain
address_pieces (c ∷ cs) local domain = name_pieces (c ∷ cs) ++ angle_pieces local domain

lexes_address : (name local domain : List ℕ) → is_domain_text domain ≡ true → Lexes (address_text name local domain) (address_pieces name local domain)
lexes_address [] local domain good = lexes_addr local domain good
lexes_address (c ∷ cs) local domain good =
    lexes_then (phrase_text (c ∷ cs)) (32 ∷ 60 ∷ (addr_text local domain ++ 62 ∷ [])) (name_pieces (c ∷ cs)) (angle_pieces local domain) (λ rest h. refl) (lexes_name (c ∷ cs)) (lexes_angle local domain good)

-- Items

abbrev pub gap_pieces : Before → List Piece
gap_pieces TheStart = []
gap_pieces AnItem = Mark Comma ∷ Blank ∷ []
gap_pieces AGroupName = Blank ∷ []

lexes_gap : (before : Before) (more : List ℕ) (qs : List Piece) → Lexes more qs → Lexes (between before ++ more) (gap_pieces before ++ qs)
lexes_gap TheStart more qs a = a
lexes_gap AnItem more qs a = lexes_on (44 ∷ []) (32 ∷ more) (Mark Comma) (Blank ∷ qs) pieces_comma (lexes_on (32 ∷ []) more Blank qs pieces_blank a)
lexes_gap AGroupName more qs a = lexes_on (32 ∷ []) more Blank qs pieces_blank a

abbrev pub item_pieces : Before → Item → List Piece
item_pieces before (Address name local domain) = gap_pieces before ++ address_pieces name local domain
item_pieces before (Group name) = gap_pieces before ++ (name_pieces name ++ Mark Colon ∷ [])
item_pieces before GroupEnd = Mark Semicolon ∷ []

abbrev pub is_good_item : Item → Bool
is_good_item (Address name local domain) = is_domain_text domain
is_good_item (Group name) = true
is_good_item GroupEnd = true

abbrev pub are_good_items : List Item → Bool
are_good_items [] = true
are_good_items (item ∷ items) = is_good_item item && are_good_items items

lexes_item : (before : Before) (item : Item) → is_good_item item ≡ true → Lexes (item_text before item) (item_pieces before item)
lexes_item before (Address name local domain) good = lexes_gap before (address_text name local domain) (address_pieces name local domain) (lexes_address name local domain good)
lexes_item before (Group name) good =
    lexes_gap before (phrase_text name ++ 58 ∷ []) (name_pieces name ++ Mark Colon ∷ [])
    (lexes_then (phrase_text name) (58 ∷ []) (name_pieces name) (Mark Colon ∷ []) (λ rest h. refl) (lexes_name name) (lexes_one (58 ∷ []) (Mark Colon) (λ rest h. pieces_colon rest)))
lexes_item before GroupEnd good = lexes_one (59 ∷ []) (Mark Semicolon) (λ rest h. pieces_semicolon rest)

abbrev pub items_pieces : Before → List Item → List Piece
items_pieces before [] = []
items_pieces before (item ∷ items) = item_pieces before item ++ items_pieces (behind_of item) items

-- What stands behind an item doesn't go on with a run.
behind_apart : (item : Item) (items : List Item) → is_apart (printed_behind AnItem (item ∷ items)) ≡ true
behind_apart (Address name local domain) items = refl
behind_apart (Group name) items = refl
behind_apart GroupEnd items = refl

items_apart : (items : List Item) → is_apart (printed_behind AnItem items) ≡ true
items_apart [] = refl
items_apart (item ∷ items) = behind_apart item items

behind_name : (items : List Item) → is_apart (printed_behind AGroupName items) ≡ true
behind_name [] = refl
behind_name (Address name local domain ∷ items) = refl
behind_name (Group name ∷ items) = refl
behind_name (GroupEnd ∷ items) = refl

pub pieces_items : (before : Before) (items : List Item) → are_good_items items ≡ true → pieces (printed_behind before items) ≡ Some (items_pieces before items)
pieces_items before [] good = pieces_none
pieces_items before (Address name local domain ∷ items) good =
    let parts = and_parts (is_domain_text domain) (are_good_items items) good in
    let one = lexes_item before (Address name local domain) parts.0 in
    one.is (printed_behind AnItem items) (items_apart items) ∙ ap (ahead_of (item_pieces before (Address name local domain))) (pieces_items AnItem items parts.1)
pieces_items before (Group name ∷ items) good =
    let one = lexes_item before (Group name) refl in
    one.is (printed_behind AGroupName items) (behind_name items) ∙ ap (ahead_of (item_pieces before (Group name))) (pieces_items AGroupName items good)
pieces_items before (GroupEnd ∷ items) good =
    let one = lexes_item before GroupEnd refl in
    one.is (printed_behind AnItem items) (items_apart items) ∙ ap (ahead_of (item_pieces before GroupEnd)) (pieces_items AnItem items good)
