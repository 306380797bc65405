-- A print has no white space at its ends.
use Rattle.std.proofs.Common.{◌≡◌, ℕ, Bool, true, false, ◌&&◌, ◌||◌, cond, eqb, List, [], ◌∷◌, ◌++◌, refl, sym, ◌∙◌, ap, subst, inl, inr}
use Rattle.std.proofs.lemmas.Bool.{cond_both, cases_Bool, cond-true, cond-false, eqb-true, and_parts, or_cases, or_left, false_from_ne_true, false≢true}
use Rattle.std.proofs.lemmas.List.{append-nil, append_assoc}
use Rattle.mail_text.specs.Texts.{behind, is_blank, before_trimmed, without_blank_end, trimmed}
use Rattle.mail_text.specs.Lines.{put}
use Rattle.mime_tree.specs.declared.values.Item.{Item}
use Rattle.mime_tree.specs.declared.values.Item.TheVariants.{Address, Group, GroupEnd}
use Rattle.address_grammar.specs.declared.printing.Before.{Before}
use Rattle.address_grammar.specs.declared.printing.Before.TheVariants.{TheStart}
use Rattle.address_grammar.specs.Pieces.{is_atom, is_plain}
use Rattle.address_grammar.specs.Spelling.{are_plain, is_run}
use Rattle.address_grammar.specs.Printing.{split, are_atom_bytes, are_atoms, is_bare, escaped, in_quotation, bare_or_quoted, phrase_text, addr_text, address_text, between, item_text, behind_of, printed_behind, printed}
use Rattle.address_grammar.proofs.GoodLemmas.{is_nil, ends_literal, is_literal}
use Rattle.address_grammar.proofs.PrintedItems.{is_domain_text, are_good_items}
use Rattle.address_grammar.proofs.PrintedLists.{is_list, is_members}

plain_blank : (c : ℕ) → is_plain c ≡ true → is_blank c ≡ false
plain_blank c plain =
    false_from_ne_true (is_blank c)
    (λ is.
    elim (or_cases (eqb c 32) (eqb c 9) is) [
      | inl one ↦ false≢true (sym (ap is_plain (eqb-true c 32 one)) ∙ plain)
      | inr two ↦ false≢true (sym (ap is_plain (eqb-true c 9 two)) ∙ plain)
    ])

-- A text that begins with a byte that is no blank, and one that ends so.
pub record Starts (text : List ℕ) : Type 0 where
  pub first : ℕ
  pub rest : List ℕ
  pub is : text ≡ first ∷ rest
  pub isnt_blank : is_blank first ≡ false

pub record Ends (text : List ℕ) : Type 0 where
  pub front : List ℕ
  pub last : ℕ
  pub is : text ≡ front ++ last ∷ []
  pub isnt_blank : is_blank last ≡ false

pub starts_append : (x y : List ℕ) → Starts x → Starts (x ++ y)
starts_append x y s = record { first = s.first; rest = s.rest ++ y; is = ap (λ z. z ++ y) s.is; isnt_blank = s.isnt_blank }

pub ends_append : (x y : List ℕ) → Ends y → Ends (x ++ y)
ends_append x y e = record { front = x ++ e.front; last = e.last; is = ap (λ z. x ++ z) e.is ∙ sym (append_assoc x e.front (e.last ∷ [])); isnt_blank = e.isnt_blank }

end_kept : (x : List ℕ) (c : ℕ) → is_blank c ≡ false → without_blank_end (x ++ c ∷ []) ≡ x ++ c ∷ []
end_kept [] c isnt = cond-false (is_blank c) [] (c ∷ []) isnt
end_kept (d ∷ []) c isnt = ap (before_trimmed d) (end_kept [] c isnt)
end_kept (d ∷ e ∷ es) c isnt = ap (before_trimmed d) (end_kept (e ∷ es) c isnt)

pub kept : (text : List ℕ) → Starts text → Ends text → trimmed text ≡ text
kept text s e =
    ap without_blank_end (ap (behind is_blank) s.is ∙ cond-false (is_blank s.first) (behind is_blank s.rest) (s.first ∷ s.rest) s.isnt_blank ∙ sym s.is)
    ∙ ap without_blank_end e.is ∙ end_kept e.front e.last e.isnt_blank ∙ sym e.is

-- The front

atom_starts : (c : ℕ) (cs : List ℕ) → is_atom c ≡ true → Starts (c ∷ cs)
atom_starts c cs is = record { first = c; rest = cs; is = refl; isnt_blank = plain_blank c (or_left (is_atom c) (eqb c 46) is) }

put_first : (c : ℕ) (ls : List (List ℕ)) → are_atoms (put c ls) ≡ true → is_atom c ≡ true
put_first c [] h = (and_parts (is_atom c) true (and_parts (is_atom c && true) true h).0).0
put_first c (l ∷ ls) h = (and_parts (is_atom c) (are_atom_bytes l) (and_parts (is_atom c && are_atom_bytes l) (are_atoms ls) h).0).0

bare_starts : (sep : ℕ) (text : List ℕ) → is_bare sep text ≡ true → Starts text
bare_starts sep [] h = absurd (false≢true h)
bare_starts sep (c ∷ cs) h =
    elim (cases_Bool (eqb c sep)) [
      | inl is ↦ absurd (false≢true (sym (ap are_atoms (cond-true (eqb c sep) ([] ∷ split sep cs) (put c (split sep cs)) is)) ∙ h))
      | inr isnt ↦ atom_starts c cs (put_first c (split sep cs) (sym (ap are_atoms (cond-false (eqb c sep) ([] ∷ split sep cs) (put c (split sep cs)) isnt)) ∙ h))
    ]

quoted_starts : (text : List ℕ) → Starts (in_quotation text)
quoted_starts text = record { first = 34; rest = escaped text ++ 34 ∷ []; is = refl; isnt_blank = refl }

bare_or_quoted_starts : (sep : ℕ) (text : List ℕ) → Starts (bare_or_quoted sep text)
bare_or_quoted_starts sep text = cond_both (is_bare sep text) text (in_quotation text) Starts (λ is. bare_starts sep text is) (λ _. quoted_starts text)

address_starts : (name local domain : List ℕ) → Starts (address_text name local domain)
address_starts [] local domain = starts_append (bare_or_quoted 46 local) (64 ∷ domain) (bare_or_quoted_starts 46 local)
address_starts (c ∷ cs) local domain =
    starts_append (phrase_text (c ∷ cs)) (32 ∷ 60 ∷ (addr_text local domain ++ 62 ∷ [])) (bare_or_quoted_starts 32 (c ∷ cs))

item_starts : (item : Item) → Starts (item_text TheStart item)
item_starts (Address name local domain) = address_starts name local domain
item_starts (Group name) = starts_append (phrase_text name) (58 ∷ []) (bare_or_quoted_starts 32 name)
item_starts GroupEnd = record { first = 59; rest = []; is = refl; isnt_blank = refl }

-- The end

one_ends : (c : ℕ) → is_blank c ≡ false → Ends (c ∷ [])
one_ends c isnt = record { front = []; last = c; is = refl; isnt_blank = isnt }

more_ends : (c : ℕ) (text : List ℕ) → Ends text → Ends (c ∷ text)
more_ends c text e = ends_append (c ∷ []) text e

run_ends : (c : ℕ) (cs : List ℕ) → is_plain c ≡ true → are_plain cs ≡ true → Ends (c ∷ cs)
run_ends c [] is h = one_ends c (plain_blank c is)
run_ends c (d ∷ ds) is h = let parts = and_parts (is_plain d) (are_plain ds) h in more_ends c (d ∷ ds) (run_ends d ds parts.0 parts.1)

nil_one : (cs : List ℕ) → is_nil cs ≡ true → cs ≡ []
nil_one [] h = refl
nil_one (c ∷ cs) h = absurd (false≢true h)

literal_ends : (text : List ℕ) → ends_literal text ≡ true → Ends text
literal_ends [] h = absurd (false≢true h)
literal_ends (c ∷ cs) h =
    let inner = cond (eqb c 91 || eqb c 92) false (ends_literal cs) in
    elim (cases_Bool (eqb c 93)) [
      | inl is ↦
          let none = nil_one cs (sym (cond-true (eqb c 93) (is_nil cs) inner is) ∙ h) in
          subst (λ z. Ends (c ∷ z)) (sym none) (one_ends c (ap is_blank (eqb-true c 93 is)))
      | inr isnt ↦
          let left : inner ≡ true = sym (cond-false (eqb c 93) (is_nil cs) inner isnt) ∙ h in
          elim (cases_Bool (eqb c 91 || eqb c 92)) [
            | inl bad ↦ absurd (false≢true (sym (cond-true (eqb c 91 || eqb c 92) false (ends_literal cs) bad) ∙ left))
            | inr good ↦ more_ends c cs (literal_ends cs (sym (cond-false (eqb c 91 || eqb c 92) false (ends_literal cs) good) ∙ left))
          ]
    ]

run_text_ends : (text : List ℕ) → is_run text ≡ true → Ends text
run_text_ends [] h = absurd (false≢true h)
run_text_ends (c ∷ cs) h = let parts = and_parts (is_plain c) (are_plain cs) h in run_ends c cs parts.0 parts.1

literal_text_ends : (text : List ℕ) → is_literal text ≡ true → Ends text
literal_text_ends [] h = absurd (false≢true h)
literal_text_ends (c ∷ cs) h = more_ends c cs (literal_ends cs (and_parts (eqb c 91) (ends_literal cs) h).1)

domain_ends : (domain : List ℕ) → is_domain_text domain ≡ true → Ends domain
domain_ends domain h =
    elim (or_cases (is_run domain) (is_literal domain) h) [
      | inl is ↦ run_text_ends domain is
      | inr is ↦ literal_text_ends domain is
    ]

address_ends : (name local domain : List ℕ) → is_domain_text domain ≡ true → Ends (address_text name local domain)
address_ends [] local domain h = ends_append (bare_or_quoted 46 local) (64 ∷ domain) (more_ends 64 domain (domain_ends domain h))
address_ends (c ∷ cs) local domain h =
    ends_append (phrase_text (c ∷ cs)) (32 ∷ 60 ∷ (addr_text local domain ++ 62 ∷ []))
    (more_ends 32 (60 ∷ (addr_text local domain ++ 62 ∷ [])) (more_ends 60 (addr_text local domain ++ 62 ∷ []) (ends_append (addr_text local domain) (62 ∷ []) (one_ends 62 refl))))

-- Items that end, in no group or in one.
abbrev pub is_shape : Bool → List Item → Bool
is_shape true items = is_members items
is_shape false items = is_list items

last_ends : (before : Before) (item : Item) (inside : Bool) → are_good_items (item ∷ []) ≡ true → is_shape inside (item ∷ []) ≡ true → Ends (item_text before item)
last_ends before (Address name local domain) inside good h =
    ends_append (between before) (address_text name local domain) (address_ends name local domain (and_parts (is_domain_text domain) true good).0)
last_ends before (Group name) true good h = absurd (false≢true h)
last_ends before (Group name) false good h = absurd (false≢true h)
last_ends before GroupEnd inside good h = one_ends 59 refl

next_shape : (item : Item) (items : List Item) (inside : Bool) → is_shape inside (item ∷ items) ≡ true → (next : Bool) × (is_shape next items ≡ true)
next_shape (Address name local domain) items true h = (true, h)
next_shape (Address name local domain) items false h = (false, h)
next_shape (Group name) items true h = absurd (false≢true h)
next_shape (Group name) items false h = (true, h)
next_shape GroupEnd items true h = (false, h)
next_shape GroupEnd items false h = absurd (false≢true h)

good_rest : (item : Item) (items : List Item) → are_good_items (item ∷ items) ≡ true → are_good_items items ≡ true
good_rest (Address name local domain) items h = (and_parts (is_domain_text domain) (are_good_items items) h).1
good_rest (Group name) items h = h
good_rest GroupEnd items h = h

printed_ends : (before : Before) (item : Item) (items : List Item) (inside : Bool) → are_good_items (item ∷ items) ≡ true → is_shape inside (item ∷ items) ≡ true →
    Ends (printed_behind before (item ∷ items))
printed_ends before item [] inside good h = subst Ends (sym (append-nil (item_text before item))) (last_ends before item inside good h)
printed_ends before item (next ∷ items) inside good h =
    let more = next_shape item (next ∷ items) inside h in
    ends_append (item_text before item) (printed_behind (behind_of item) (next ∷ items)) (printed_ends (behind_of item) next items more.0 (good_rest item (next ∷ items) good) more.1)

pub printed_trimmed : (items : List Item) → are_good_items items ≡ true → is_list items ≡ true → (items ≡ [] → ⊥) → trimmed (printed items) ≡ printed items
printed_trimmed [] good h some = absurd (some refl)
printed_trimmed (item ∷ items) good h some =
    kept (printed (item ∷ items)) (starts_append (item_text TheStart item) (printed_behind (behind_of item) items) (item_starts item)) (printed_ends TheStart item items false good h)
